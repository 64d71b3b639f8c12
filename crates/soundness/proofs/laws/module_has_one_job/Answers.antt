use Rattle.soundness.proofs.ModuleJobs.{one_job}
use Rattle.soundness.proofs.SomeJobs.{some_job}
use Rattle.soundness.proofs.laws.module_has_one_job.Goals as goal

pub returns : goal.returns
returns c = record { one = one_job; some = some_job }
