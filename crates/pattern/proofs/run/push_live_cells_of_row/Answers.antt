use Rattle.pattern.proofs.Imports.{arith, common_steps}
use Rattle.bbm_rule.proofs.CellLists.{cast_cell, row_filtered}
use Rattle.pattern.proofs.run.push_live_cells_of_row.Goals as goal

pub loop-x-preserved : goal.loop-x-preserved
loop-x-preserved c = grind (arith, common_steps, cast_cell, row_filtered)
