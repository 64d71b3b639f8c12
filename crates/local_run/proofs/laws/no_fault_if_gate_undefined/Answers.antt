use Rattle.local_run.proofs.Leasts.{undefined_no_fault}
use Rattle.local_run.proofs.laws.no_fault_if_gate_undefined.Goals as goal

pub returns : goal.returns
returns c = undefined_no_fault
