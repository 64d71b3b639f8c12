-- A table of the blocks of a rectangle, row by row, in which boxes take the places of their blocks
use Rattle.std.specs.Prelude.{◌≡◌, ℕ, ◌+◌, ◌*◌, ◌<◌, ◌≤◌, List, length, slice_index}
use Rattle.module_box.specs.Tiling.{HasBlockAtPlace}
use Rattle.bbm_rule.specs.declared.block.Box2.{Box2}
use Rattle.lemmas.specs.Bounds.{max_blocks_in_row, max_side}

-- the places from `from` to before `stop` were free and have the number now, the others are as before; a `stop` before
-- the end is not free
pub record TakesRow (free number from end stop : ℕ) (old new : List ℕ) : Type 0 where
  pub sized : length new ≡ length old
  pub from_on : from ≤ stop
  pub within : stop ≤ end
  pub taken : (k : ℕ) → from ≤ k → k < stop → (slice_index old k ≡ free) × (slice_index new k ≡ number)
  pub before : (k : ℕ) → k < from → slice_index new k ≡ slice_index old k
  pub after : (k : ℕ) → stop ≤ k → slice_index new k ≡ slice_index old k
  pub ends : stop < end → ¬ (slice_index old stop ≡ free)

-- before `stop`, the places of the box's blocks were free and have the number now, and the others are as before; a
-- `stop` before the end of the table is the place of a block of the box and is not free
pub record TakesBox (columns : ℕ) (b : Box2) (free number stop : ℕ) (old new : List ℕ) : Type 0 where
  pub sized : length new ≡ length old
  pub within : stop ≤ length old
  pub taken : (k : ℕ) → k < stop → HasBlockAtPlace b columns k →
      (slice_index old k ≡ free) × (slice_index new k ≡ number)
  pub others : (k : ℕ) → k < stop → ¬ HasBlockAtPlace b columns k → slice_index new k ≡ slice_index old k
  pub ends : stop < length old → HasBlockAtPlace b columns stop × ¬ (slice_index old stop ≡ free)

-- the box lies in a rectangle that is `columns` blocks wide, and at most 2048 blocks wide and high
pub record FitsBlockTable (columns : ℕ) (b : Box2) : Type 0 where
  pub some : 0 < columns
  pub most : columns ≤ max_blocks_in_row
  pub right : b.x + b.w ≤ 2 * columns
  pub bottom : b.y + b.h ≤ max_side
