use Rattle.certificate_lines.proofs.Imports.{ArePortsInLayout, AreRowsWithPortsNumbered, Box2, HaveDistinctCells}
use Rattle.certificate_lines.proofs.Imports.{LayoutHeader, List, None, Port, Some, arith, common_steps, entry_place}
use Rattle.certificate_lines.proofs.Imports.{get_or, length, refl, size_fault, size_sides, slice_get, slice_get-get_or}
use Rattle.certificate_lines.proofs.Imports.{subst, sym, whole, ℕ, ◌+◌, ◌<◌, ◌∙◌, ◌≡◌, ◌≤◌}
use Rattle.lemmas.proofs.Common.{take-length}
use Rattle.certificate_lines.proofs.RowLemmas.{entry_few, entry_some}
use Rattle.certificate_lines.proofs.TableLemmas.{IsFilling, in_whole, few_entries, no_ports, number_small, one_more}
use Rattle.certificate_lines.proofs.TableLemmas.{none_outside}
use Rattle.certificate_lines.proofs.ports.index_ports.Goals.{in-Some, in_default}
use Rattle.certificate_lines.proofs.ports.index_ports.Goals as goal
use Rattle.lemmas.specs.Bounds.{max_side}

abbrev AreSmall : Box2 → Type 0
AreSmall b = (b.w ≤ max_side) × (b.h ≤ max_side)

small_sides : (s : LayoutHeader) → size_fault s ≡ None → (b : Box2) → b ≡ whole s → AreSmall b
small_sides s limits b is = let sides = size_sides s limits in subst AreSmall (sym is) (sides.0.most, sides.1.most)

pub number_rows-requires-clause-inside : goal.number_rows-requires-clause-inside
number_rows-requires-clause-inside c =
    in_whole c.args.size c.whole_of-area.result c.whole_of-area.ensures c.args.ports.now c.requires.inside

pub number_rows-requires-clause-small : goal.number_rows-requires-clause-small
number_rows-requires-clause-small c =
    (small_sides c.args.size c.requires.limits c.whole_of-area.result c.whole_of-area.ensures).1

pub loop-number-init : goal.loop-number-init
loop-number-init c =
    let zeros = c.in_ok-numbers.ensures.items_if_clones_equal (λ y h. h) in
    subst (λ (ns : List ℕ).
    IsFilling c.whole_of-area.result c.args.ports.now c.in_ok-rows.rows.items c.in_ok-rows.count 0 ns) (sym zeros)
    (no_ports c.whole_of-area.result c.args.ports.now c.in_ok-rows.rows.items c.in_ok-rows.count _ refl)

pub entry_place-requires-clause-inside : goal.entry_place-requires-clause-inside
entry_place-requires-clause-inside c =
    in_whole c.args.size c.whole_of-area.result c.whole_of-area.ensures c.args.ports.now c.requires.inside
    c.loop-number.number _
    (slice_get-get_or c.args.ports.now c.loop-number.number c.index-ports-number.result c.loop-number-test.true)

pub entry_place-requires-clause-small : goal.entry_place-requires-clause-small
entry_place-requires-clause-small c =
    (small_sides c.args.size c.requires.limits c.whole_of-area.result c.whole_of-area.ensures).0

-- a port at a place among the numbers has a number that fits
few : (s : LayoutHeader) → size_fault s ≡ None → (b : Box2) → b ≡ whole s → (ports : List Port) →
    HaveDistinctCells ports → ArePortsInLayout s ports → (rows : List ℕ) (count : ℕ) →
    AreRowsWithPortsNumbered b ports rows count → (k : ℕ) (p : Port) → slice_get ports k ≡ Some p → (place : ℕ) →
    entry_place b rows p.cell.x p.cell.y ≡ Some place → (numbers : List ℕ) → IsFilling b ports rows count k numbers →
    k + 1 < 4294967296
few s limits b is ports apart on_board rows count are k p at place there numbers filling =
    let small = small_sides s limits b is in
    let most = few_entries count b.w b.h are.few small.0 small.1 in
    let below = number_small b ports apart (in_whole s b is ports on_board) rows count are k p at place there numbers
    filling in
    omega (arith, most, below)

pub overflow_cast-number : goal.overflow_cast-number
overflow_cast-number c = grind (arith, common_steps, slice_get-get_or, few)

pub overflow_add-number : goal.overflow_add-number
overflow_add-number c = grind (arith, common_steps, slice_get-get_or, few)

pub index_mut-requires : goal.index_mut-requires
index_mut-requires c =
    let p : Port = get_or c.args.ports.now c.loop-number.number c.index-ports-number.result in
    let at = slice_get-get_or c.args.ports.now c.loop-number.number c.index-ports-number.result
    c.loop-number-test.true in
    let inside = in_whole c.args.size c.whole_of-area.result c.whole_of-area.ensures c.args.ports.now
    c.requires.inside c.loop-number.number p at in
    let there : entry_place c.whole_of-area.result c.in_ok-rows.rows.items p.cell.x p.cell.y ≡ Some c.in-Some.place =
    grind (arith, common_steps) in
    let lt = entry_few c.whole_of-area.result c.args.ports.now c.in_ok-rows.rows.items c.in_ok-rows.count
    c.in_ok-rows.ensures p.cell.x p.cell.y c.in-Some.place inside there in
    omega (arith, lt, c.loop-number.invariant.sized)

pub loop-number-preserved : goal.loop-number-preserved
loop-number-preserved c =
    let p : Port = get_or c.args.ports.now c.loop-number.number c.index-ports-number.result in
    let at = slice_get-get_or c.args.ports.now c.loop-number.number c.index-ports-number.result
    c.loop-number-test.true in
    let inside = in_whole c.args.size c.whole_of-area.result c.whole_of-area.ensures c.args.ports.now
    c.requires.inside in
    let there : entry_place c.whole_of-area.result c.in_ok-rows.rows.items p.cell.x p.cell.y ≡ c.entry_place.result =
    grind (arith, common_steps) in
    elim c.match-entry_place.branch [
      | in-Some w ↦ grind (arith, common_steps, one_more)
      | in_default w ↦ absurd (entry_some c.whole_of-area.result c.args.ports.now c.in_ok-rows.rows.items
          c.in_ok-rows.count c.in_ok-rows.ensures c.loop-number.number p at (there ∙ w.in_default.is))
    ]

pub invariant_of-result : goal.invariant_of-result
invariant_of-result c =
    let small = small_sides c.args.size c.requires.limits c.whole_of-area.result c.whole_of-area.ensures in
    let full : IsFilling c.whole_of-area.result c.args.ports.now c.in_ok-rows.rows.items c.in_ok-rows.count
    (length c.args.ports.now) c.loop-number.numbers.items =
    grind (arith, common_steps) in
    record {
      small = small;
      sized = c.in_ok-rows.ensures.sized;
      within = λ x y place h e.
          let lt = entry_few c.whole_of-area.result c.args.ports.now c.in_ok-rows.rows.items c.in_ok-rows.count
          c.in_ok-rows.ensures x y place h e in
          omega (arith, lt, full.sized);
      numbered = λ x y h. grind (arith, common_steps, take-length);
      wires = c.in_ok-wires.ensures;
      elsewhere = none_outside c.whole_of-area.result c.args.ports.now
          (in_whole c.args.size c.whole_of-area.result c.whole_of-area.ensures c.args.ports.now c.requires.inside);
    }
