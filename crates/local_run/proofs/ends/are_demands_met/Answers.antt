use Rattle.local_run.proofs.Imports.{arith, by_eq_or_not, by_lt_or_le, inl, inr, subst, sym, ◌*◌, ◌+◌, ◌∙◌}
use Rattle.local_run.specs.Ends.{IsCorrectAtEnd}
use Rattle.local_run.proofs.Firsts.{none_least}
use Rattle.local_run.proofs.NextCells.{cell_of_place, place_within}
use Rattle.local_run.proofs.ends.are_demands_met.Goals as goal

pub loop-place-preserved : goal.loop-place-preserved
loop-place-preserved c =
    let j = c.args.job.now in
    let vs = c.args.values.now in
    let m = c.loop-place.invariant in
    let at = c.column_and_row_of_place-x.ensures in
    let x0 = c.column_and_row_of_place-x.result.0 in
    let y0 = c.column_and_row_of_place-x.result.1 in
    let next = c.skip_dead_demands-place-in-loop-place.ensures in
    let here : IsCorrectAtEnd j vs x0 y0 = none_least _ _ _ (sym c.if-is_some.ensures)
    c.first_end_fault_assignment.ensures in
    record {
      count = (omega (arith, m.count, next.range), next.range.1);
      before = λ x y lx ly less. by_lt_or_le (j.area.w * y + x) c.loop-place.place (m.before x y lx ly)
          (λ more. by_eq_or_not (j.area.w * y + x) c.loop-place.place
          (λ same.
          let cell = cell_of_place j.area.w x0 y0 x y at.column lx (at.place_is_exact ∙ sym same) in
          inr (subst (λ k. IsCorrectAtEnd j vs k y) (sym cell.0)
          (subst (λ k. IsCorrectAtEnd j vs x0 k) (sym cell.1) here)))
          (λ other. inl (next.passed_dead x y lx (omega (arith, more, other)) less)));
    }

pub returns : goal.returns
returns c = λ all x y lx ly.
    let j = c.args.job.now in
    c.loop-place.invariant.before x y lx ly
    (let within = place_within j.area.w j.area.h x y lx ly in
    omega (arith, within, c.cell_count-cells.ensures.0, c.loop-place-test.false))
