use Rattle.bbm_rule.proofs.Imports.{ℕ, ◌<◌, ◌≡◌}
use Rattle.lemmas.proofs.Common.{slice_index_or}
use Rattle.bbm_rule.proofs.marks.mark_all.Given as goal

abbrev pub invariant-loop-k : goal.invariant-loop-k
invariant-loop-k l = (k : ℕ) → k < l.k → slice_index_or l.marks k 0 ≡ 18446744073709551615
