use Rattle.local_run.proofs.Leasts.{IsKeepFree}
use Rattle.local_run.proofs.keep.find_least_keep_fault.Given as goal

abbrev pub invariant-loop-gate : goal.invariant-loop-gate
invariant-loop-gate l = IsKeepFree l.job l.gate
