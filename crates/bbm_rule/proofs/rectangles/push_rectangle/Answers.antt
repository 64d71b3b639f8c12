use Rattle.bbm_rule.proofs.Imports.{arith, common_steps}
use Rattle.bbm_rule.specs.CellLists.{rectangle_cells}
use Rattle.bbm_rule.proofs.CellLists.{rows_pushed}
use Rattle.bbm_rule.proofs.rectangles.push_rectangle.Goals as goal

pub loop-row-preserved : goal.loop-row-preserved
loop-row-preserved c =
    rows_pushed _ _ _ c.args.r.x c.args.r.w c.args.r.y c.loop-row.row
    (omega arith) c.loop-row.invariant c.in_ok-push_row_cells.ensures

pub returns : goal.returns
unfolding rectangle_cells
returns c = grind (arith, common_steps)
