use Rattle.local_run.proofs.LeapLemmas.{AreOther}
use Rattle.local_run.proofs.lines.find_all_times_signal.Given as goal

abbrev pub invariant-loop-k : goal.invariant-loop-k
invariant-loop-k l = AreOther l.all_times l.cell l.k
