use Rattle.pattern.proofs.Imports.{Cell, arith, common_steps, live, live_cells, rectangle_cells}
use Rattle.bbm_rule.proofs.CellLists.{rows_filtered}
use Rattle.pattern.proofs.run.live_cells_in_order.Goals as goal

pub loop-y-preserved : goal.loop-y-preserved
loop-y-preserved c = rows_filtered
    (λ (d : Cell). live c.args.grid.now d.x d.y) _ _ c.args.size.w c.loop-y.y c.loop-y.invariant
    c.in_ok-push_live_cells_of_row.ensures

pub returns : goal.returns
unfolding live_cells rectangle_cells
returns c = grind (arith, common_steps)
