use Rattle.lanes.proofs.Imports.{slice_index, ℕ, ◌+◌, ◌<◌, ◌≡◌}
use Rattle.lanes.proofs.words.has_word_other_than.Given as goal

-- if no difference is seen, the words so far are the same
abbrev pub invariant-loop-k : goal.invariant-loop-k
invariant-loop-k l = l.difference ≡ 0 → (k : ℕ) → k < l.k → slice_index l.words (l.a + k) ≡ l.word
