-- Blocks that some of their cells hold as they are
use Rattle.std.specs.Prelude.{◌≡◌, Bool, true, false, ℕ, ◌+◌, ◌*◌, ◌<◌, ◌⊎◌, List, slice_index}
use Rattle.bbm_rule.specs.Bits.{bit}

-- a cell by its bits: bit j of word k. The cell has a number in a plane, with w words of each cell
abbrev pub cell_word_bit : ℕ → List ℕ → ℕ → ℕ → ℕ → Bool
cell_word_bit w cells at k j = bit (slice_index cells (w * at + k)) j

-- a cell, in w words, has the same value under each assignment
abbrev pub HasValueUnderEachAssignment : Bool → ℕ → (ℕ → ℕ → Bool) → Type 0
HasValueUnderEachAssignment value w bits = (k j : ℕ) → k < w → j < 64 → bits k j ≡ value

-- The four corners of a block, upper left, upper right, lower left and lower right, by their bits, and for each a
-- condition. Each diagonal has a cell that meets its condition and is live under each assignment
pub record HasLiveCellOnEachDiagonal (w : ℕ) (A B C D : Type 0) (a b c d : ℕ → ℕ → Bool) : Type 0 where
  pub main : (A × HasValueUnderEachAssignment true w a) ⊎ (D × HasValueUnderEachAssignment true w d)
  pub anti : (B × HasValueUnderEachAssignment true w b) ⊎ (C × HasValueUnderEachAssignment true w c)

-- each corner meets its condition, and is dead under each assignment
pub record IsEmptyBlock (w : ℕ) (A B C D : Type 0) (a b c d : ℕ → ℕ → Bool) : Type 0 where
  pub conditions : A × B × C × D
  pub upper_left : HasValueUnderEachAssignment false w a
  pub upper_right : HasValueUnderEachAssignment false w b
  pub lower_left : HasValueUnderEachAssignment false w c
  pub lower_right : HasValueUnderEachAssignment false w d

-- by the cells that meet their conditions a turn leaves the block as it is
abbrev pub IsBlockHeldByCorners : ℕ → Type 0 → Type 0 → Type 0 → Type 0 → (a b c d : ℕ → ℕ → Bool) → Type 0
IsBlockHeldByCorners w A B C D a b c d = HasLiveCellOnEachDiagonal w A B C D a b c d ⊎ IsEmptyBlock w A B C D a b c d
