-- The coordinates of the cells of a box and of the cells around it, counted from the box
use Rattle.std.specs.Prelude.{ℕ, ℤ, pos, ◌+◌, ◌-ℤ◌, ◌≤◌}
use Rattle.bbm_rule.specs.declared.block.Box2.{Box2}
use Rattle.lemmas.specs.Bounds.{max_side}

-- number k of the columns or rows of a box whose first is c
unfoldable pub box_coord : ℕ → ℕ → ℤ
box_coord c k = pos (c + k)

-- number k of the columns or rows of a box and its halo, if number 1 is c
unfoldable pub halo_coord : ℕ → ℕ → ℤ
halo_coord c k = pos (c + k) -ℤ pos 1

-- the box is near the plane's corner, and the place near the box's corner
abbrev pub HasSmallCoordinates : Box2 → ℕ → ℕ → Type 0
HasSmallCoordinates b x y = (b.x ≤ max_side) × (b.y ≤ max_side) × (x ≤ 66) × (y ≤ 66)
