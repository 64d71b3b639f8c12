use Rattle.lemmas.proofs.Common.{Keeps}
use Rattle.streams.proofs.retrying.RetryingWrite.write.Given as goal

-- no byte was written yet
abbrev pub invariant-loop : goal.invariant-loop
invariant-loop g l = Keeps (g.W.Write.contents l.initial.self.inner) (g.W.Write.contents l.self.inner)
