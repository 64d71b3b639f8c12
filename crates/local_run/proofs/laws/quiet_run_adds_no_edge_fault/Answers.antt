use Rattle.local_run.proofs.LeapLemmas.{no_new_faults}
use Rattle.local_run.proofs.laws.quiet_run_adds_no_edge_fault.Goals as goal

pub returns : goal.returns
returns c = no_new_faults
