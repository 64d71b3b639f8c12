-- A small design that computes its circuit gets a yes after it is moved
use Rattle.headline.proofs.Imports.{CircuitLine, HasRoomToMove, IsCorrect, IsDesign, IsReportOf, IsSmallDesign, IsTrue}
use Rattle.headline.proofs.Imports.{List, Outcome, Pattern, TouchesRim, Yes, arith, circuit_of, common_steps}
use Rattle.headline.proofs.Imports.{design_text, enlarged, in_ring, moved, run_under, subst, whole, ℕ, ◌≡◌}
use Rattle.headline.specs.MovedDesigns.{EachMovedCorrectDesignGetsYes}
use Rattle.headline.proofs.MovedLines.{enlarged_good, moved_good}
use Rattle.headline.proofs.MovedPlanes.{by_moved}
use Rattle.headline.proofs.MovedRims.{not_rim}
use Rattle.headline.proofs.MovedRuns.{correct_moved, named_moved, under_moved}
use Rattle.headline.proofs.SomeReport.{some_report}
use Rattle.headline.proofs.WrittenDesigns.{each_has_text, each_is_decided}

design_moved : (circuit : List CircuitLine) (p : Pattern) → IsDesign circuit p → HasRoomToMove circuit p →
    IsDesign circuit (moved p)
design_moved circuit p design room = record {
  circuit_lines = design.circuit_lines;
  in_order = design.in_order;
  names = design.names;
  all_consumed = design.all_consumed;
  size = enlarged_good p.size design.size room.wide room.high;
  layout_lines = moved_good p design.layout_lines;
  ports = named_moved circuit p design.ports;
}

small_moved : (circuit : List CircuitLine) (p : Pattern) → HasRoomToMove circuit p → IsSmallDesign circuit (moved p)
small_moved circuit p room = grind (arith, common_steps)

-- A live cell of the moved run is a moved cell of the old rectangle, and the rim has none of these.
off_rim : (circuit : List CircuitLine) (p : Pattern) → IsCorrect circuit p → ¬ TouchesRim circuit (moved p)
off_rim circuit p correct t =
    by_moved
    (λ x y. IsTrue (in_ring (whole (enlarged p.size)) x y) →
    IsTrue (run_under (circuit_of circuit) (moved p) t.inputs t.time x y) → ⊥)
    (grind (arith, common_steps, under_moved, not_rim))
    t.x t.y t.touch.rim t.touch.live

pub each_gets_yes : EachMovedCorrectDesignGetsYes
each_gets_yes circuit p design room correct none =
    let text = design_text circuit (moved p) in
    let rules = design_moved circuit p design room in
    let small = small_moved circuit p room in
    let right = correct_moved circuit p correct in
    let off = off_rim circuit p correct in
    let always : (output : List ℕ) (outcome : Outcome) → IsReportOf text output outcome → outcome ≡ Yes =
    λ output outcome says. (each_is_decided circuit (moved p) output outcome rules small says).1.1 (right, none, off) in
    let some = some_report text in
    record {
      design = rules;
      small = small;
      plain = each_has_text circuit (moved p) rules small;
      correct = right;
      off_rim = off;
      report = some.0;
      reported = subst (IsReportOf text some.0) (always some.0 some.1 some.2) some.2;
      always = always;
    }
