-- Boxes that tile a rectangle, by its blocks of two by two cells
use Rattle.std.specs.Prelude.{◌≡◌, ℕ, ℤ, pos, ◌<◌, ◌≤◌, ◌+◌, ◌*◌, ◌/◌, ◌%◌, List, [], ◌∷◌, ◌++◌, length, None, Option}
use Rattle.std.specs.Prelude.{IsTrue, Some, slice_get, slice_index}
use Rattle.std.specs.Int.RustNames.{unsigned_abs}
use Rattle.bbm_rule.specs.Boxes.{in_box, IsEvenBox, Tile}
use Rattle.bbm_rule.specs.declared.block.Box2.{Box2}
use Rattle.bbm_rule.specs.declared.block.Cell.{Cell}
use Rattle.module_box.specs.declared.tile.TileFault.{TileFault}
use Rattle.module_box.specs.declared.tile.TileFault.TheVariants.{Outside, Overlap, Gap, Memory}
use Rattle.lemmas.specs.Bounds.{max_blocks_in_layout, max_side}

-- the corner of the block at a place, by blocks counted row by row
abbrev pub block_corner_x : ℕ → ℕ → ℤ
block_corner_x columns place = pos (2 * (place % columns))

-- the row of the upper left cell of the block at a place
abbrev pub block_corner_y : ℕ → ℕ → ℤ
block_corner_y columns place = pos (2 * (place / columns))

-- the rectangle of this width and height with its upper left corner at (0, 0)
abbrev pub rectangle_of : ℕ → ℕ → Box2
rectangle_of w h = record { x = 0; y = 0; w = w; h = h }

-- the box is inside that rectangle
pub record IsInside (w h : ℕ) (b : Box2) : Type 0 where
  pub right : b.x + b.w ≤ w
  pub bottom : b.y + b.h ≤ h

-- box i has the cell (x, y)
pub record BoxHoldsCell (boxes : List Box2) (x y : ℤ) (i : ℕ) : Type 0 where
  pub area : Box2
  pub numbered : slice_get boxes i ≡ Some area
  pub has : IsTrue (in_box area x y)

-- box i and no other has the cell
pub record IsOnlyBoxWithCell (boxes : List Box2) (x y : ℤ) (i : ℕ) : Type 0 where
  pub holds : BoxHoldsCell boxes x y i
  pub only : (j : ℕ) → BoxHoldsCell boxes x y j → j ≡ i

-- the first n boxes are inside the rectangle
abbrev pub AreFirstBoxesInside : ℕ → ℕ → ℕ → List Box2 → Type 0
AreFirstBoxesInside w h n boxes = (k : ℕ) (b : Box2) → k < n → slice_get boxes k ≡ Some b → IsInside w h b

-- each block before the place lies in one box
abbrev pub AreFirstBlocksEachInOneBox : ℕ → ℕ → List Box2 → Type 0
AreFirstBlocksEachInOneBox columns place boxes =
    (k : ℕ) → k < place → (i : ℕ) × IsOnlyBoxWithCell boxes (block_corner_x columns k) (block_corner_y columns k) i

-- the first block that lies in two boxes or in none
pub record IsFirstBadBlock (w h : ℕ) (boxes : List Box2) (c : Cell) : Type 0 where
  pub inside : AreFirstBoxesInside w h (length boxes) boxes
  pub place : ℕ
  pub within : place < (h / 2) * (w / 2)
  pub x : c.x ≡ block_corner_x (w / 2) place
  pub y : c.y ≡ block_corner_y (w / 2) place
  pub before : AreFirstBlocksEachInOneBox (w / 2) place boxes

-- two boxes have the cell (x, y)
pub record IsCellHeldTwice (boxes : List Box2) (x y : ℤ) : Type 0 where
  pub one : ℕ
  pub other : ℕ
  pub apart : one < other
  pub first : BoxHoldsCell boxes x y one
  pub second : BoxHoldsCell boxes x y other

-- the first box that is not inside, else the first block that lies in two boxes or in none
abbrev pub IsTileFault : ℕ → ℕ → List Box2 → TileFault → Type 0
IsTileFault w h boxes (Outside n) =
    AreFirstBoxesInside w h n boxes × ((b : Box2) × (slice_get boxes n ≡ Some b) × ¬ IsInside w h b)
IsTileFault w h boxes (Overlap c) = IsFirstBadBlock w h boxes c × IsCellHeldTwice boxes c.x c.y
IsTileFault w h boxes (Gap c) = IsFirstBadBlock w h boxes c × ((i : ℕ) → ¬ BoxHoldsCell boxes c.x c.y i)
IsTileFault w h boxes Memory = Unit {0}

-- what `owner_table` asks of its caller
pub record MayHaveOwnerTable (w h : ℕ) (boxes : List Box2) : Type 0 where
  pub width : (2 ≤ w) × (w ≤ max_side) × (w % 2 ≡ 0)
  pub height : (2 ≤ h) × (h ≤ max_side) × (h % 2 ≡ 0)
  pub even : (k : ℕ) (b : Box2) → slice_get boxes k ≡ Some b → IsEvenBox b
  pub sides : (k : ℕ) (b : Box2) → slice_get boxes k ≡ Some b → (2 ≤ b.w) × (2 ≤ b.h)

-- a rectangle, and the number of a box for each of its blocks, row by row
pub record OwnersView : Type 0 where
  pub width : ℕ
  pub height : ℕ
  pub numbers : List ℕ

-- its rectangle
abbrev pub rectangle : OwnersView → Box2
rectangle o = rectangle_of o.width o.height

-- the column or row of the block that has a column or row of cells
abbrev pub block_index : ℤ → ℕ
block_index z = unsigned_abs z / 2

-- the number for the block that has the cell (x, y)
unfoldable pub owner_of : OwnersView → ℤ → ℤ → ℕ
owner_of o x y = slice_index o.numbers (block_index y * (o.width / 2) + block_index x)

-- its sides, and one number for each block
pub record HasOwnerTableSizes (o : OwnersView) : Type 0 where
  pub width : (2 ≤ o.width) × (o.width ≤ max_side) × (o.width % 2 ≡ 0)
  pub height : (2 ≤ o.height) × (o.height ≤ max_side) × (o.height % 2 ≡ 0)
  pub sized : length o.numbers ≡ (o.height / 2) * (o.width / 2)

-- the boxes tile the rectangle, and the number for each of its cells is that of the box that has the cell
pub record IsTilingOwnerTable (o : OwnersView) (boxes : List Box2) : Type 0 where
  pub tile : Tile (rectangle o) boxes
  pub named : (x y : ℤ) → IsTrue (in_box (rectangle o) x y) →
      (b : Box2) × (slice_get boxes (owner_of o x y) ≡ Some b) × IsTrue (in_box b x y)

-- the block at a place, by blocks counted row by row, lies in the box
abbrev pub HasBlockAtPlace : Box2 → ℕ → ℕ → Type 0
HasBlockAtPlace b columns k = IsTrue (in_box b (block_corner_x columns k) (block_corner_y columns k))

-- box i has the block at a place
abbrev pub BoxHoldsBlock : List Box2 → ℕ → ℕ → ℕ → Type 0
BoxHoldsBlock boxes columns k i = BoxHoldsCell boxes (block_corner_x columns k) (block_corner_y columns k) i

-- the number at each place of the table is that of the one box that has the block there, or `free` if none has it
pub record IsOwnerTableOf (columns free : ℕ) (boxes : List Box2) (table : List ℕ) : Type 0 where
  pub few : length boxes ≤ free
  pub owned : (k i : ℕ) → k < length table → BoxHoldsBlock boxes columns k i → slice_index table k ≡ i
  pub named : (k : ℕ) → k < length table → ¬ (slice_index table k ≡ free) →
      BoxHoldsBlock boxes columns k (slice_index table k)

-- the boxes are even and inside the rectangle
abbrev pub AreBoxesEvenInside : OwnersView → List Box2 → Type 0
AreBoxesEvenInside o boxes = (i : ℕ) (b : Box2) → slice_get boxes i ≡ Some b → IsEvenBox b × IsInside o.width o.height b

-- the number at the blocks that no box has so far; each box has a lower one
abbrev pub no_owner : ℕ
no_owner = max_blocks_in_layout

-- The boxes so far are even and inside the rectangle, and no two have a block in common. The number for each block is
-- that of the box that has it, or `no_owner` if none has it.
pub record IsPartialOwnerTable (o : OwnersView) (boxes : List Box2) : Type 0 where
  pub table : HasOwnerTableSizes o
  pub each : AreBoxesEvenInside o boxes
  pub taken : IsOwnerTableOf (o.width / 2) no_owner boxes o.numbers

-- no box so far has a block of this box
abbrev pub IsFreeBox : OwnersView → Box2 → Type 0
IsFreeBox o b = (k : ℕ) → k < length o.numbers → HasBlockAtPlace b (o.width / 2) k →
    slice_index o.numbers k ≡ no_owner

-- the box may be added: it is even, inside the rectangle and free
pub record MayAddBox (o : OwnersView) (b : Box2) : Type 0 where
  pub even : IsEvenBox b
  pub inside : IsInside o.width o.height b
  pub free : IsFreeBox o b

-- the boxes so far have each block of the rectangle
abbrev pub AreAllBlocksTaken : OwnersView → Type 0
AreAllBlocksTaken o = (k : ℕ) → k < length o.numbers → ¬ (slice_index o.numbers k ≡ no_owner)

-- the box of this number has the cell, or none has it
abbrev pub IsOwnerOrNone : List Box2 → ℤ → ℤ → Option ℕ → Type 0
IsOwnerOrNone boxes x y None = (i : ℕ) → ¬ BoxHoldsCell boxes x y i
IsOwnerOrNone boxes x y (Some i) = BoxHoldsCell boxes x y i

-- The box's blocks have the number now, and the others are as before. With the next number the table has one more box.
pub record PutsBox (b : Box2) (number : ℕ) (old new : OwnersView) : Type 0 where
  pub width : new.width ≡ old.width
  pub height : new.height ≡ old.height
  pub sized : length new.numbers ≡ length old.numbers
  pub blocks : (k : ℕ) → k < length old.numbers → HasBlockAtPlace b (old.width / 2) k →
      slice_index new.numbers k ≡ number
  pub others : (k : ℕ) → k < length old.numbers → ¬ HasBlockAtPlace b (old.width / 2) k →
      slice_index new.numbers k ≡ slice_index old.numbers k
  pub boxes : (boxes : List Box2) → IsPartialOwnerTable old boxes → number ≡ length boxes → number < no_owner →
      IsPartialOwnerTable new (boxes ++ b ∷ [])
