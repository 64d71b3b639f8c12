-- The blocks of four planes that have no mark
use Rattle.std.specs.Prelude.{◌≡◌, ◌≢◌, ◌⊎◌, Bool, true, ℕ, ◌+◌, ◌*◌, ◌<◌, ◌≤◌, List, slice_index, vec_len}
use Rattle.std.proofs.Props.{props}
use Rattle.bbm_rule.specs.Marks.{IsNumberUnmarked}
use Rattle.bbm_rule.specs.Rows.{cell_at}
use Rattle.lanes.specs.Blocks.{IsNumberOfBlock, ShareNoChangingCell, block_at, marks_of}
use Rattle.lanes.specs.Turns.{IsBlockStable}
use Rattle.lanes.specs.declared.block_marks.BlockMarks.{BlockMarks}
use Rattle.lanes.specs.declared.blocks.BlockPlaces.{BlockPlaces}
use Rattle.lanes.specs.declared.blocks.Partition.{Partition}
use Rattle.lanes.specs.declared.planes.Planes.{Planes}

-- the blocks of both partitions stay, but for those with a mark
abbrev pub AreUnmarkedBlocksStable : BlockMarks → Planes → Type 0
AreUnmarkedBlocksStable m p =
    (part : Partition) (u : ℕ) → IsNumberOfBlock part p u → IsNumberUnmarked (marks_of part m) u →
    IsBlockStable (block_at part p.stride u) p

-- any two proofs of this are equal
pub AreUnmarkedBlocksStable-prop : (m : BlockMarks) (p : Planes) → IsProp (AreUnmarkedBlocksStable m p)
AreUnmarkedBlocksStable-prop m p = Prim.hlevel props

-- there is room for the marks of n blocks of each partition
abbrev pub HasRoomForBlockMarks : ℕ → BlockMarks → Type 0
HasRoomForBlockMarks n m = (n ≤ 64 * vec_len m.odd) × (n ≤ 64 * vec_len m.even)

-- the marks of each partition have as much room
abbrev pub HasSameBlockMarkRoom : BlockMarks → BlockMarks → Type 0
HasSameBlockMarkRoom m m' = (vec_len m'.odd ≡ vec_len m.odd) × (vec_len m'.even ≡ vec_len m.even)

-- the first n blocks of each partition have marks
abbrev pub AreFirstBlocksMarked : ℕ → BlockMarks → Type 0
AreFirstBlocksMarked n m = (part : Partition) (u : ℕ) → u < n → IsNumberUnmarked (marks_of part m) u → ⊥

-- they have marks, but for those with a mark among the others
abbrev pub AreBlocksMarkedUnlessIn : ℕ → BlockMarks → BlockMarks → Type 0
AreBlocksMarkedUnlessIn n others m =
    (part : Partition) (u : ℕ) → u < n → IsNumberUnmarked (marks_of part m) u → cell_at (marks_of part others) u ≡ true

-- marks are made at the blocks of a partition that share a cell with a block: a cell of its main diagonal if that
-- changes, and one of the other diagonal if that does
abbrev pub MarksPartitionBlocksSharing : Partition → Bool → Bool → ℕ → BlockPlaces → List ℕ → List ℕ → Type 0
MarksPartitionBlocksSharing part main anti s b old new =
    (u : ℕ) → IsNumberUnmarked new u → IsNumberUnmarked old u × ShareNoChangingCell main anti (block_at part s u) b

-- so they are at the blocks of both partitions
abbrev pub MarksBlocksSharingCell : Bool → Bool → ℕ → BlockPlaces → BlockMarks → BlockMarks → Type 0
MarksBlocksSharingCell main anti s b m m' =
    (part : Partition) → MarksPartitionBlocksSharing part main anti s b (marks_of part m) (marks_of part m')

-- no mark is taken off but that of one block
abbrev pub UnmarksAtMostBlock : Partition → ℕ → BlockMarks → BlockMarks → Type 0
UnmarksAtMostBlock part at m m' = (other : Partition) (u : ℕ) → IsNumberUnmarked (marks_of other m') u →
    IsNumberUnmarked (marks_of other m) u ⊎ ((other ≡ part) × (u ≡ at))

-- the cells with a number are dead under each assignment, one in each plane
abbrev pub AreNumberedCellsDead : ℕ → Planes → Type 0
AreNumberedCellsDead u p = (k : ℕ) → k < p.words →
    (slice_index p.odd.items (p.words * u + k) ≡ 0) × (slice_index p.right.items (p.words * u + k) ≡ 0)
    × (slice_index p.down.items (p.words * u + k) ≡ 0) × (slice_index p.even.items (p.words * u + k) ≡ 0)

-- the cells with each number are
abbrev pub AreAllCellsDead : Planes → Type 0
AreAllCellsDead p = (u : ℕ) → AreNumberedCellsDead u p

-- In each plane the words of one cell may change, and no others. Those of the main diagonal may change only if `main`,
-- those of the other one only if `anti`
pub record ChangesOnlyDiagonals (main anti : Bool) (b : BlockPlaces) (p q : Planes) : Type 0 where
  pub odd_same : (u k : ℕ) → k < p.words → (main ≡ true → u ≢ b.odd) →
      slice_index q.odd.items (p.words * u + k) ≡ slice_index p.odd.items (p.words * u + k)
  pub right_same : (u k : ℕ) → k < p.words → (anti ≡ true → u ≢ b.right) →
      slice_index q.right.items (p.words * u + k) ≡ slice_index p.right.items (p.words * u + k)
  pub down_same : (u k : ℕ) → k < p.words → (anti ≡ true → u ≢ b.down) →
      slice_index q.down.items (p.words * u + k) ≡ slice_index p.down.items (p.words * u + k)
  pub even_same : (u k : ℕ) → k < p.words → (main ≡ true → u ≢ b.even) →
      slice_index q.even.items (p.words * u + k) ≡ slice_index p.even.items (p.words * u + k)
