use Rattle.module_job.proofs.Imports.{arith, common_steps}
use Rattle.module_job.proofs.NumberedCells.{start_tests}
use Rattle.module_job.proofs.cell_lists.StartSignalsPartialEq.eq.Goals as goal

pub returns : goal.returns
returns c = grind (arith, common_steps, start_tests)
