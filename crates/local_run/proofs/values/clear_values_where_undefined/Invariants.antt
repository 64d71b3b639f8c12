use Rattle.local_run.proofs.Cleared.{AreCleared}
use Rattle.local_run.proofs.values.clear_values_where_undefined.Given as goal

abbrev pub invariant-loop-k : goal.invariant-loop-k
invariant-loop-k l = AreCleared l.defined l.k l.fn.values l.values
