use Rattle.local_run.proofs.Imports.{arith, by_eq_or_not, by_lt_or_le, dead_lane, false, lane, sym, ℕ, ◌*◌}
use Rattle.local_run.proofs.Imports.{◌+◌, ◌<◌, ◌∙◌, ◌≡◌, ap₂, box_coord, local_run, valuation}
use Rattle.lanes.proofs.SettledLemmas.{settled_once, settled_twice}
use Rattle.local_run.proofs.NextCells.{cell_of_place, dead_start, place_within}
use Rattle.local_run.proofs.Stepping.{run_start}
use Rattle.local_run.proofs.steps.put_start.Goals as goal

pub loop-place-init : goal.loop-place-init
loop-place-init c =
    let j = c.args.job.now in
    let size = c.requires.size in
    let first = c.skip_dead_starts-place.ensures in
    let ready = c.requires.job_ready in
    let dead : (a x y : ℕ) → a < 64 * c.args.values.now.words →
    lane c.args.marked_planes.now.planes a (1 + x) (1 + y) ≡ false =
    λ a x y la. dead_lane c.args.marked_planes.now.planes (1 + x) (1 + y) a (c.requires.all_cells_dead _)
    (let e = size.0 in rw e la) in
    record {
      settled = settled_once c.args.marked_planes.now;
      size = size;
      count = (first.range.0, first.range.1);
      before = λ a x y la lx ly less. dead a x y (omega (arith, la, ready.count, ready.room))
          ∙ dead_start j _ _ _ (first.passed_dead x y lx (omega arith) less);
      from = λ a x y la lx ly more. dead a x y la;
    }

pub loop-place-preserved : goal.loop-place-preserved
loop-place-preserved c =
    let j = c.args.job.now in
    let vs = c.args.values.now in
    let ready = c.requires.job_ready in
    let m = c.loop-place.invariant in
    let at = c.column_and_row_of_place-x.ensures in
    let x0 = c.column_and_row_of_place-x.result.0 in
    let y0 = c.column_and_row_of_place-x.result.1 in
    let p = c.loop-place.marked_planes.planes in
    let q = c.put_start_cell.new.marked_planes.planes in
    let puts = c.put_start_cell.ensures.puts in
    let next = c.skip_dead_starts-place-in-loop-place.ensures in
    let kept : (a x y : ℕ) → a < 64 * vs.words → x < j.area.w → y < j.area.h →
    (j.area.w * y + x ≡ c.loop-place.place → ⊥) →
    lane q a (1 + x) (1 + y) ≡ lane p a (1 + x) (1 + y) =
    λ a x y la lx ly other. puts.rest a (1 + x) (1 + y) la (omega (arith, m.size.1, lx))
    (λ same. other (ap₂ (λ s r. j.area.w * s + r) (omega (arith, same.1)) (omega (arith, same.0))
    ∙ at.place_is_exact)) in
    record {
      settled = settled_twice c.args.marked_planes.now c.loop-place.marked_planes c.put_start_cell.new.marked_planes
          m.settled c.put_start_cell.ensures.settled;
      size = (puts.size.0 ∙ m.size.0, puts.size.1 ∙ m.size.1, puts.size.2 ∙ m.size.2);
      count = (omega (arith, m.count, next.range), next.range.1);
      before = λ a x y la lx ly less.
          let wide : a < 64 * vs.words = omega (arith, la, ready.count, ready.room) in
          by_lt_or_le (j.area.w * y + x) c.loop-place.place
          (λ lt. kept a x y wide lx ly (λ same. absurd (omega (arith, lt, same))) ∙ m.before a x y la lx ly lt)
          (λ more. by_eq_or_not (j.area.w * y + x) c.loop-place.place
          (λ same.
          let cell = cell_of_place j.area.w x0 y0 x y at.column lx (at.place_is_exact ∙ sym same) in
          ap₂ (λ k n. lane q a (1 + k) (1 + n)) cell.0 cell.1 ∙ puts.there a wide
          ∙ run_start j (valuation vs a) (box_coord j.area.x x0) (box_coord j.area.y y0)
          ∙ ap₂ (λ k n. local_run j (valuation vs a) 0 (box_coord j.area.x k) (box_coord j.area.y n)) (sym cell.0)
          (sym cell.1))
          (λ other. kept a x y wide lx ly other ∙ m.from a x y wide lx ly more
          ∙ dead_start j _ _ _ (next.passed_dead x y lx (omega (arith, more, other)) less)));
      from = λ a x y la lx ly more. kept a x y la lx ly (λ same. absurd (omega (arith, more, same, next.range)))
          ∙ m.from a x y la lx ly (omega (arith, more, next.range));
    }

pub returns-clause-shows : goal.returns-clause-shows
returns-clause-shows c =
    let j = c.args.job.now in
    let m = c.loop-place.invariant in
    record {
      size = m.size;
      cells = λ a x y la lx ly. m.before a x y la lx ly
          (let within = place_within j.area.w j.area.h x y lx ly in
          omega (arith, within, c.cell_count-cells.ensures.0, c.loop-place-test.false));
    }
