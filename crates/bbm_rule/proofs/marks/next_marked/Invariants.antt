use Rattle.bbm_rule.proofs.Imports.{IsNumberUnmarked, ℕ, ◌*◌, ◌<◌, ◌≤◌}
use Rattle.bbm_rule.proofs.marks.next_marked.Given as goal

-- none was passed that has a mark
abbrev pub invariant-loop-k : goal.invariant-loop-k
invariant-loop-k l = (u : ℕ) → l.from ≤ u → u < 64 * l.k → IsNumberUnmarked l.marks u
