use Rattle.bbm_rule.proofs.Imports.{arith, live, refl, ◌∙◌}
use Rattle.bbm_rule.proofs.RectangleLemmas.{filled_more, none_filled}
use Rattle.bbm_rule.proofs.rectangles.fill_rectangle.Goals as goal

pub loop-y-init : goal.loop-y-init
loop-y-init c = record {
  size = (refl, refl);
  filled = none_filled (live c.args.grid.now) c.args.r.x c.args.r.w c.args.r.y;
}

pub loop-y-preserved : goal.loop-y-preserved
loop-y-preserved c = record {
  size = (
    c.fill_row.ensures.size.0 ∙ c.loop-y.invariant.size.0,
    c.fill_row.ensures.size.1 ∙ c.loop-y.invariant.size.1,
  );
  filled = filled_more (live c.args.grid.now) (live c.loop-y.grid) (live c.fill_row.new.self) c.args.r.x c.args.r.w
      c.args.r.y c.loop-y.y (omega arith) c.loop-y.invariant.filled c.fill_row.ensures.cells;
}
