use Rattle.lanes.proofs.Imports.{IsDiagonalStable, slice_index, ℕ, ◌+◌, ◌<◌, ◌≡◌}
use Rattle.lanes.proofs.words.part_changes.Given as goal

-- where no flip is seen of a diagonal, it stays in the words so far
abbrev pub invariant-loop-k : goal.invariant-loop-k
invariant-loop-k l = record {
  main : l.main ≡ 0 → (k : ℕ) → k < l.k →
      IsDiagonalStable (slice_index l.odd (l.at.odd + k)) (slice_index l.even (l.at.even + k))
      (slice_index l.right (l.at.right + k)) (slice_index l.down (l.at.down + k));
  anti : l.anti ≡ 0 → (k : ℕ) → k < l.k →
      IsDiagonalStable (slice_index l.right (l.at.right + k)) (slice_index l.down (l.at.down + k))
      (slice_index l.odd (l.at.odd + k)) (slice_index l.even (l.at.even + k));
}
