use Rattle.module_job.proofs.Imports.{arith, common_steps}
use Rattle.module_job.proofs.NumberedCells.{demand_tests}
use Rattle.module_job.proofs.cell_lists.EndDemandsPartialEq.eq.Goals as goal

pub returns : goal.returns
returns c = grind (arith, common_steps, demand_tests)
