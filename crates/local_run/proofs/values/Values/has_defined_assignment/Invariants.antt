use Rattle.local_run.proofs.Imports.{false, is_defined_under, ℕ, ◌*◌, ◌<◌, ◌≡◌}
use Rattle.local_run.proofs.values.Values.has_defined_assignment.Given as goal

-- some used gate lacks a row under the assignments so far
abbrev pub invariant-loop-k : goal.invariant-loop-k
invariant-loop-k l = (a : ℕ) → a < 64 * l.k → is_defined_under l.self a ≡ false
