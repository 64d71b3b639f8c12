use Rattle.lemmas.proofs.Common.{◌≡◌, length, Keeps}
use Rattle.streams.proofs.retrying.RetryingRead.read.Given as goal

-- no byte was read yet
abbrev pub invariant-loop : goal.invariant-loop
invariant-loop g l = (length l.buf ≡ length l.initial.buf)
    × Keeps (g.R.Read.remaining l.initial.self.inner) (g.R.Read.remaining l.self.inner)
