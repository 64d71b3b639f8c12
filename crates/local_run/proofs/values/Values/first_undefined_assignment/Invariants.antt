use Rattle.local_run.proofs.Imports.{false, value_of, ℕ, ◌*◌, ◌<◌, ◌≡◌}
use Rattle.local_run.proofs.values.Values.first_undefined_assignment.Given as goal

abbrev pub invariant-loop-k : goal.invariant-loop-k
invariant-loop-k l = (a : ℕ) → a < 64 * l.k → value_of l.self.words l.self.rows.undefined.items a l.gate ≡ false
