use Rattle.lanes.proofs.Imports.{IsNumberUnmarked, length, ℕ, ◌*◌, ◌+◌, ◌-◌, ◌<◌, ◌≡◌}
use Rattle.lanes.proofs.marks.mark_ring_and_halo_numbers.Given as goal

-- the first and the last cell of the rows so far
abbrev pub invariant-loop-row : goal.invariant-loop-row
invariant-loop-row l = record {
  long : length l.marks ≡ length l.fn.marks;
  ends : (row : ℕ) → row < l.row →
      (IsNumberUnmarked l.marks (l.stride * row) → ⊥) × (IsNumberUnmarked l.marks (l.stride * row + l.stride - 1) → ⊥);
}

-- and the first and the last row of the columns so far
abbrev pub invariant-loop-column : goal.invariant-loop-column
invariant-loop-column l = record {
  long : length l.marks ≡ length l.fn.marks;
  ends : (row : ℕ) → row < l.rows →
      (IsNumberUnmarked l.marks (l.stride * row) → ⊥) × (IsNumberUnmarked l.marks (l.stride * row + l.stride - 1) → ⊥);
  rows : (column : ℕ) → column < l.column →
      (IsNumberUnmarked l.marks column → ⊥) × (IsNumberUnmarked l.marks (l.stride * (l.rows - 1) + column) → ⊥);
}
