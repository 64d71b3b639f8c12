-- Marks on the cells of four planes: those without a mark are dead
use Rattle.std.specs.Prelude.{◌≡◌, ◌≢◌, ◌==◌, if◌then◌else◌, Bool, true, ℕ, ◌+◌, ◌*◌, ◌%◌, ◌<◌, ◌≤◌, ◌⊎◌, List}
use Rattle.std.specs.Prelude.{slice_index, vec_len}
use Rattle.std.proofs.Props.{props}
use Rattle.bbm_rule.specs.Marks.{IsNumberUnmarked}
use Rattle.bbm_rule.specs.Rows.{cell_at}
use Rattle.lanes.specs.declared.blocks.BlockPlaces.{BlockPlaces}
use Rattle.lanes.specs.declared.blocks.Diagonal.{Diagonal}
use Rattle.lanes.specs.declared.blocks.Diagonal.TheVariants.{Anti, Main}
use Rattle.lanes.specs.declared.live.LiveMarks.{LiveMarks}
use Rattle.lanes.specs.declared.planes.Planes.{Planes}

-- there is room for the marks of n cells of each plane
abbrev pub HasRoomForCellMarks : ℕ → LiveMarks → Type 0
HasRoomForCellMarks n l = (n ≤ 64 * vec_len l.odd) × (n ≤ 64 * vec_len l.right) × (n ≤ 64 * vec_len l.down)
    × (n ≤ 64 * vec_len l.even)

-- the marks of each plane have as much room
abbrev pub HasSameCellMarkRoom : LiveMarks → LiveMarks → Type 0
HasSameCellMarkRoom l l' = (vec_len l'.odd ≡ vec_len l.odd) × (vec_len l'.right ≡ vec_len l.right)
    × (vec_len l'.down ≡ vec_len l.down) × (vec_len l'.even ≡ vec_len l.even)

-- the first n cells of each plane have marks
abbrev pub AreFirstCellsMarked : ℕ → LiveMarks → Type 0
AreFirstCellsMarked n l = (u : ℕ) → u < n →
    (IsNumberUnmarked l.odd.items u → ⊥) × (IsNumberUnmarked l.right.items u → ⊥)
    × (IsNumberUnmarked l.down.items u → ⊥)
    × (IsNumberUnmarked l.even.items u → ⊥)

-- a number has a mark in both lists
abbrev pub IsMarkedInBoth : List ℕ → List ℕ → ℕ → Type 0
IsMarkedInBoth first second u = (cell_at first u ≡ true) × (cell_at second u ≡ true)

-- the first n cells of each plane have marks, but for those whose number has a mark in both lists
abbrev pub AreCellsMarkedUnlessInBoth : ℕ → List ℕ → List ℕ → LiveMarks → Type 0
AreCellsMarkedUnlessInBoth n first second l = (u : ℕ) → u < n →
    (IsNumberUnmarked l.odd.items u → IsMarkedInBoth first second u)
    × (IsNumberUnmarked l.right.items u → IsMarkedInBoth first second u)
    × (IsNumberUnmarked l.down.items u → IsMarkedInBoth first second u)
    × (IsNumberUnmarked l.even.items u → IsMarkedInBoth first second u)

-- the words of a cell are zero
abbrev pub IsDeadCell : ℕ → ℕ → List ℕ → Type 0
IsDeadCell words u cells = (k : ℕ) → k < words → slice_index cells (words * u + k) ≡ 0

-- in each plane the word at this place is zero
abbrev pub AreWordsZeroAt : ℕ → Planes → Type 0
AreWordsZeroAt at p = (slice_index p.odd.items at ≡ 0) × (slice_index p.right.items at ≡ 0)
    × (slice_index p.down.items at ≡ 0) × (slice_index p.even.items at ≡ 0)

-- the cells of a plane are dead, but for those with a mark
abbrev pub AreUnmarkedCellsDead : ℕ → ℕ → List ℕ → List ℕ → Type 0
AreUnmarkedCellsDead words count marks cells = (u : ℕ) → u < count → IsNumberUnmarked marks u → IsDeadCell words u cells

-- so are those of all planes
abbrev pub AreAllUnmarkedCellsDead : LiveMarks → Planes → Type 0
AreAllUnmarkedCellsDead l p = AreUnmarkedCellsDead p.words (p.stride * p.rows) l.odd.items p.odd.items
    × AreUnmarkedCellsDead p.words (p.stride * p.rows) l.right.items p.right.items
    × AreUnmarkedCellsDead p.words (p.stride * p.rows) l.down.items p.down.items
    × AreUnmarkedCellsDead p.words (p.stride * p.rows) l.even.items p.even.items

-- any two proofs of this are equal
pub AreAllUnmarkedCellsDead-prop : (l : LiveMarks) (p : Planes) → IsProp (AreAllUnmarkedCellsDead l p)
AreAllUnmarkedCellsDead-prop l p = Prim.hlevel props

-- one more cell is marked, if the diagonal that it is on changes
abbrev pub MarksCellIf : Bool → ℕ → List ℕ → List ℕ → Type 0
MarksCellIf changes at old new = (u : ℕ) → IsNumberUnmarked new u → IsNumberUnmarked old u × (changes ≡ true → u ≢ at)

-- the mark of one cell becomes what that of another was
abbrev pub TakesMarkOfOther : ℕ → ℕ → List ℕ → List ℕ → List ℕ → Type 0
TakesMarkOfOther at other old others new =
    (u : ℕ) → IsNumberUnmarked new u → ((u ≢ at) × IsNumberUnmarked old u) ⊎ ((u ≡ at) × IsNumberUnmarked others other)

-- no mark is taken off, but that of a cell if it is dead
abbrev pub UnmarksOnlyIfDead : ℕ → ℕ → List ℕ → List ℕ → List ℕ → Type 0
UnmarksOnlyIfDead words at cells old new =
    (u : ℕ) → IsNumberUnmarked new u → IsNumberUnmarked old u ⊎ ((u ≡ at) × IsDeadCell words at cells)

-- one more cell of each plane is marked, if the diagonal of the block that it is on changes
pub record MarksChangedCells (main anti : Bool) (b : BlockPlaces) (l l' : LiveMarks) : Type 0 where
  pub odd : MarksCellIf main b.odd l.odd.items l'.odd.items
  pub right : MarksCellIf anti b.right l.right.items l'.right.items
  pub down : MarksCellIf anti b.down l.down.items l'.down.items
  pub even : MarksCellIf main b.even l.even.items l'.even.items

-- the marks of the plane of a cell, by the parities of its column and row
unfoldable pub plane_marks_at : LiveMarks → ℕ → ℕ → List ℕ
plane_marks_at l x y =
    if x % 2 == 0 then (if y % 2 == 0 then l.odd.items else l.down.items)
    else (if y % 2 == 0 then l.right.items else l.even.items)

-- the mark of one cell, which has this column, row and number, becomes the value, and no other mark changes
pub record SetsCellMark (x y u : ℕ) (value : Bool) (l l' : LiveMarks) : Type 0 where
  pub there : cell_at (plane_marks_at l' x y) u ≡ value
  pub rest : (x' y' v : ℕ) → ((x' % 2 ≡ x % 2) × (y' % 2 ≡ y % 2) × (v ≡ u) → ⊥) →
      cell_at (plane_marks_at l' x' y') v ≡ cell_at (plane_marks_at l x' y') v

-- no mark is taken off but those of the dead cells of a block
pub record UnmarksOnlyDeadCells (p : Planes) (b : BlockPlaces) (l l' : LiveMarks) : Type 0 where
  pub odd : UnmarksOnlyIfDead p.words b.odd p.odd.items l.odd.items l'.odd.items
  pub right : UnmarksOnlyIfDead p.words b.right p.right.items l.right.items l'.right.items
  pub down : UnmarksOnlyIfDead p.words b.down p.down.items l.down.items l'.down.items
  pub even : UnmarksOnlyIfDead p.words b.even p.even.items l.even.items l'.even.items

-- the marks of the cells of a diagonal change places
abbrev pub SwapsDiagonalMarks : Diagonal → BlockPlaces → LiveMarks → LiveMarks → Type 0
SwapsDiagonalMarks Main b l l' = TakesMarkOfOther b.odd b.even l.odd.items l.even.items l'.odd.items
    × TakesMarkOfOther b.even b.odd l.even.items l.odd.items l'.even.items × (l'.right ≡ l.right) × (l'.down ≡ l.down)
SwapsDiagonalMarks Anti b l l' = TakesMarkOfOther b.right b.down l.right.items l.down.items l'.right.items
    × TakesMarkOfOther b.down b.right l.down.items l.right.items l'.down.items × (l'.odd ≡ l.odd) × (l'.even ≡ l.even)

-- no cell of a block has a mark but one at most of a diagonal
abbrev pub HasAtMostOneDiagonalMark : Diagonal → LiveMarks → BlockPlaces → Type 0
HasAtMostOneDiagonalMark Main l b = IsNumberUnmarked l.right.items b.right × IsNumberUnmarked l.down.items b.down
    × (IsNumberUnmarked l.odd.items b.odd ⊎ IsNumberUnmarked l.even.items b.even)
HasAtMostOneDiagonalMark Anti l b = IsNumberUnmarked l.odd.items b.odd × IsNumberUnmarked l.even.items b.even
    × (IsNumberUnmarked l.right.items b.right ⊎ IsNumberUnmarked l.down.items b.down)

-- none has a mark
abbrev pub AreBlockCellsUnmarked : LiveMarks → BlockPlaces → Type 0
AreBlockCellsUnmarked l b = IsNumberUnmarked l.odd.items b.odd × IsNumberUnmarked l.right.items b.right
    × IsNumberUnmarked l.down.items b.down × IsNumberUnmarked l.even.items b.even

-- no cell with this number has one
abbrev pub AreNumberCellsUnmarked : LiveMarks → ℕ → Type 0
AreNumberCellsUnmarked l u =
    IsNumberUnmarked l.odd.items u × IsNumberUnmarked l.right.items u × IsNumberUnmarked l.down.items u
    × IsNumberUnmarked l.even.items u

-- the numbers of the cells of a block are among those that have marks
abbrev pub HasRoomForBlockCells : LiveMarks → BlockPlaces → Type 0
HasRoomForBlockCells l b = (b.odd < 64 * vec_len l.odd) × (b.right < 64 * vec_len l.right)
    × (b.down < 64 * vec_len l.down) × (b.even < 64 * vec_len l.even)
