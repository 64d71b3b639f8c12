use Rattle.lanes.proofs.Imports.{get_or, length, ℕ, ◌<◌, ◌≡◌}
use Rattle.lanes.proofs.MarkFlips.{lacking}
use Rattle.lanes.proofs.marks.set_marks_to_not_both.Given as goal

-- the words so far are those of the numbers that lack a mark
abbrev pub invariant-loop-k : goal.invariant-loop-k
invariant-loop-k l = record {
  long : length l.marks ≡ length l.fn.marks;
  words : (k : ℕ) → k < l.k → get_or l.marks k 0 ≡ lacking l.first l.second k;
}
