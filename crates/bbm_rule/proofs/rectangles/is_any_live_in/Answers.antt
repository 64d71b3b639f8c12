use Rattle.bbm_rule.proofs.Imports.{arith, common_steps}
use Rattle.bbm_rule.specs.CellLists.{rectangle_cells}
use Rattle.bbm_rule.proofs.CellLists.{row_found, rows_found}
use Rattle.bbm_rule.proofs.rectangles.is_any_live_in.Goals as goal

pub loop-y-preserved : goal.loop-y-preserved
loop-y-preserved c = grind (arith, common_steps, rows_found, row_found)

pub returns : goal.returns
unfolding rectangle_cells
returns c = grind (arith, common_steps)
