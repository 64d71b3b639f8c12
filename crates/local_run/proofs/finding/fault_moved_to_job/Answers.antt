use Rattle.local_run.proofs.Imports.{arith, common_steps, w32}
use Rattle.local_run.proofs.finding.fault_moved_to_job.Goals as goal

pub returns : goal.returns
returns c = grind (arith, common_steps, w32)
