use Rattle.local_run.proofs.Imports.{false, ℕ, ◌*◌, ◌<◌, ◌≡◌}
use Rattle.local_run.proofs.Scans.{differs}
use Rattle.local_run.proofs.values.Values.seek_difference_where_defined.Given as goal

-- as the signal says under the assignments so far, where each used gate has a row
abbrev pub invariant-loop-k : goal.invariant-loop-k
invariant-loop-k l = (a : ℕ) → a < 64 * l.k → differs l.self l.planes l.x l.y l.signal a ≡ false
