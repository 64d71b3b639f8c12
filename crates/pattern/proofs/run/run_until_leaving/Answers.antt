use Rattle.pattern.proofs.Imports.{State, ap, arith, live, refl, sym, ◌∙◌}
use Rattle.pattern.proofs.PlaneRuns.{run_none, stays_none, stepped, stays_more, run_leaves, runs_inside, at_err, at_ok}
use Rattle.pattern.proofs.run.run_until_leaving.Goals as goal

pub loop-t-init : goal.loop-t-init
loop-t-init c = record {
  cells = λ x y. ap (λ (s : State). s x y) (sym (run_none (live c.args.grid.now)));
  stays = stays_none c.args.grid.now c.args.size c.requires.0 c.requires.1;
  size = (refl, refl);
}

pub returns-then-is_err-clause-run : goal.returns-then-is_err-clause-run
returns-then-is_err-clause-run c =
    run_leaves (live c.args.grid.now) c.loop-t.t c.loop-t.grid c.args.size (c.loop-t.invariant.size.0 ∙ c.requires.0)
    (c.loop-t.invariant.size.1 ∙ c.requires.1) (omega arith) c.loop-t.invariant.cells c.loop-t.invariant.stays
    (at_err c.step.result _ c.step.ensures.cell_leaves_on_error (sym c.is_err.ensures.value ∙ c.if-is_err.true))

pub loop-t-preserved : goal.loop-t-preserved
loop-t-preserved c =
    let same = stepped (live c.args.grid.now) c.loop-t.t c.loop-t.grid c.step.new.self c.loop-t.invariant.cells
    (at_ok c.step.result _ c.step.ensures.stepped (sym c.is_err.ensures.value ∙ c.if-is_err.false)) in
    let wide = c.step.ensures.size.0 ∙ c.loop-t.invariant.size.0 in
    let high = c.step.ensures.size.1 ∙ c.loop-t.invariant.size.1 in
    record {
      cells = same;
      stays = stays_more (live c.args.grid.now) c.loop-t.t c.step.new.self c.args.size (wide ∙ c.requires.0)
          (high ∙ c.requires.1) same c.loop-t.invariant.stays;
      size = (wide, high);
    }

pub returns-clause-run : goal.returns-clause-run
returns-clause-run c = runs_inside (live c.args.grid.now) c.loop-t.t c.loop-t.grid c.args.size
    (omega arith) c.loop-t.invariant.cells c.loop-t.invariant.stays
