use Rattle.local_run.proofs.LeapLemmas.{quiet_runs}
use Rattle.local_run.proofs.laws.quiet_run_stays_unchanged.Goals as goal

pub returns : goal.returns
returns c = quiet_runs
