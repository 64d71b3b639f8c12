-- Blocks that no step changes, whatever becomes of the other cells
use Rattle.std.specs.Prelude.{◌≡◌, true, ℕ, ◌+◌, ◌*◌, ◌^◌, ◌<◌, ◌≤◌, List, slice_index, vec_len}
use Rattle.bbm_rule.specs.Rows.{cell_at}
use Rattle.lanes.specs.Blocks.{IsNotRowEndBlock, IsNumberOfBlock, block_at, block_number_count, marks_of}
use Rattle.lanes.specs.Blocks.{other_partition}
use Rattle.lanes.specs.Held.{IsEmptyBlock, IsBlockHeldByCorners, cell_word_bit}
use Rattle.lanes.specs.Turns.{IsBlockStable}
use Rattle.lanes.specs.declared.block_marks.BlockMarks.{BlockMarks}
use Rattle.lanes.specs.declared.blocks.BlockPlaces.{BlockPlaces}
use Rattle.lanes.specs.declared.blocks.Partition.{Partition}
use Rattle.lanes.specs.declared.blocks.Partition.TheVariants.{Odd}
use Rattle.lanes.specs.declared.frozen.FrozenBlocks.{FrozenBlocks}
use Rattle.lanes.specs.declared.planes.Planes.{Planes}

-- the number that is less by the distance has a mark, if there is one
abbrev pub IsNumberBeforeMarked : List ℕ → ℕ → ℕ → Type 0
IsNumberBeforeMarked marks distance u = (n : ℕ) → n + distance ≡ u → cell_at marks n ≡ true

-- each block of a partition that has a cell of a plane has a mark
abbrev pub AreBlocksMarkedAt : Partition → List ℕ → ℕ → (BlockPlaces → ℕ) → ℕ → Type 0
AreBlocksMarkedAt part marks s place at = (n : ℕ) → place (block_at part s n) ≡ at → cell_at marks n ≡ true

-- so has the block of the other partition that has this cell of block u, if there is one
abbrev pub IsOtherBlockOfCellMarked : Partition → BlockMarks → Planes → (BlockPlaces → ℕ) → ℕ → Type 0
IsOtherBlockOfCellMarked part m p place u = AreBlocksMarkedAt (other_partition part)
    (marks_of (other_partition part) m) p.stride place (place (block_at part p.stride u))

-- a block is held by cells whose blocks of the other partition have marks, where they have one
abbrev pub IsBlockHeld : Partition → BlockMarks → Planes → ℕ → Type 0
IsBlockHeld part m p u =
    IsBlockHeldByCorners p.words (IsOtherBlockOfCellMarked part m p (λ b. b.odd) u)
    (IsOtherBlockOfCellMarked part m p (λ b. b.right) u)
    (IsOtherBlockOfCellMarked part m p (λ b. b.down) u) (IsOtherBlockOfCellMarked part m p (λ b. b.even) u)
    (cell_word_bit p.words p.odd.items (block_at part p.stride u).odd)
    (cell_word_bit p.words p.right.items (block_at part p.stride u).right)
    (cell_word_bit p.words p.down.items (block_at part p.stride u).down)
    (cell_word_bit p.words p.even.items (block_at part p.stride u).even)

-- it is held, and empty
abbrev pub IsBlockHeldAndEmpty : Partition → BlockMarks → Planes → ℕ → Type 0
IsBlockHeldAndEmpty part m p u =
    IsEmptyBlock p.words (IsOtherBlockOfCellMarked part m p (λ b. b.odd) u)
    (IsOtherBlockOfCellMarked part m p (λ b. b.right) u)
    (IsOtherBlockOfCellMarked part m p (λ b. b.down) u) (IsOtherBlockOfCellMarked part m p (λ b. b.even) u)
    (cell_word_bit p.words p.odd.items (block_at part p.stride u).odd)
    (cell_word_bit p.words p.right.items (block_at part p.stride u).right)
    (cell_word_bit p.words p.down.items (block_at part p.stride u).down)
    (cell_word_bit p.words p.even.items (block_at part p.stride u).even)

-- there is room for the marks of all blocks
pub record HasRoomForAllBlockMarks (b : FrozenBlocks) (p : Planes) : Type 0 where
  pub odd : p.stride * p.rows ≤ 64 * vec_len b.marks.odd
  pub even : p.stride * p.rows ≤ 64 * vec_len b.marks.even
  pub empty : p.stride * p.rows ≤ 64 * vec_len b.empty

-- The blocks of a partition with marks are held by cells whose blocks of the other partition have marks too. The last
-- blocks of the rows of the even partition, which are not turned, have marks
pub record AreMarkedBlocksHeld (part : Partition) (m : BlockMarks) (p : Planes) : Type 0 where
  pub held : (u : ℕ) → IsNumberOfBlock part p u → cell_at (marks_of part m) u ≡ true → IsBlockHeld part m p u
  pub last : (u : ℕ) → u < block_number_count part p → (IsNotRowEndBlock part p.stride u → ⊥) →
      cell_at (marks_of part m) u ≡ true

-- So none of the blocks with marks ever changes, nor do those with a mark as empty
pub record AreMarkedBlocksFrozen (b : FrozenBlocks) (p : Planes) : Type 0 where
  pub room : HasRoomForAllBlockMarks b p
  pub blocks : (part : Partition) → AreMarkedBlocksHeld part b.marks p
  pub empty : (u : ℕ) → u < p.stride * p.rows → cell_at b.marks.odd.items u ≡ true →
      cell_at b.empty.items u ≡ true → IsBlockHeldAndEmpty Odd b.marks p u

-- the blocks with marks are frozen, if they were found
abbrev pub AreBlocksFrozenIfFound : FrozenBlocks → Planes → Type 0
AreBlocksFrozenIfFound b p = ∥ (b.is_found ≡ true → AreMarkedBlocksFrozen b p) ∥₁

-- the words of the planes are words
pub record ArePlaneWordsInRange (p : Planes) : Type 0 where
  pub odd : (k : ℕ) → slice_index p.odd.items k < 2 ^ 64
  pub right : (k : ℕ) → slice_index p.right.items k < 2 ^ 64
  pub down : (k : ℕ) → slice_index p.down.items k < 2 ^ 64
  pub even : (k : ℕ) → slice_index p.even.items k < 2 ^ 64

-- the blocks of a partition with marks stay, and the last ones of the rows have marks
pub record AreMarkedBlocksStable (part : Partition) (marks : List ℕ) (p : Planes) : Type 0 where
  pub calm : (u : ℕ) → IsNumberOfBlock part p u → cell_at marks u ≡ true → IsBlockStable (block_at part p.stride u) p
  pub last : (u : ℕ) → u < block_number_count part p → (IsNotRowEndBlock part p.stride u → ⊥) → cell_at marks u ≡ true

-- A turn of a partition leaves the cells that are in none of its blocks as they are: if it is the even one, the first
-- ones of three planes, above the box and to the left of it
pub record KeepsCellsOutsideBlocks (part : Partition) (p q : Planes) : Type 0 where
  pub odd : (u k : ℕ) → u < (block_at part p.stride 0).odd → k < p.words →
      slice_index q.odd.items (p.words * u + k) ≡ slice_index p.odd.items (p.words * u + k)
  pub right : (u k : ℕ) → u < (block_at part p.stride 0).right → k < p.words →
      slice_index q.right.items (p.words * u + k) ≡ slice_index p.right.items (p.words * u + k)
  pub down : (u k : ℕ) → u < (block_at part p.stride 0).down → k < p.words →
      slice_index q.down.items (p.words * u + k) ≡ slice_index p.down.items (p.words * u + k)
  pub even : (u k : ℕ) → u < (block_at part p.stride 0).even → k < p.words →
      slice_index q.even.items (p.words * u + k) ≡ slice_index p.even.items (p.words * u + k)
