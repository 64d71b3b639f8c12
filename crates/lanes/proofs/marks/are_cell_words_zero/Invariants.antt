use Rattle.lanes.proofs.Imports.{slice_index, ℕ, ◌*◌, ◌+◌, ◌<◌, ◌≡◌}
use Rattle.lanes.proofs.marks.are_cell_words_zero.Given as goal

-- the words so far are zero
abbrev pub invariant-loop-k : goal.invariant-loop-k
invariant-loop-k l = (k : ℕ) → k < l.k → slice_index l.cells (l.words * l.at + k) ≡ 0
