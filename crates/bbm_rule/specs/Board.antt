-- A rectangle of cells of the plane, whose upper left corner is the cell (0, 0), and what the functions of a grid do to
-- it
use Rattle.std.specs.Prelude.{◌≡◌, ◌&&◌, Bool, true, false, ℕ, ◌+◌, ◌*◌, nat_lt, List, ℤ, pos, negsuc}
use Rattle.std.specs.List.{slice_index_or}
use Rattle.bbm_rule.specs.Plane.{State, step}

-- its size, and its cells row by row
pub record Board : Type 0 where
  pub width : ℕ
  pub height : ℕ
  pub cells : List Bool

-- whether the cell (x, y) of the plane is inside the board
abbrev pub is_inside : Board → ℤ → ℤ → Bool
is_inside b (pos x) (pos y) = nat_lt x b.width && nat_lt y b.height
is_inside b (pos x) (negsuc y) = false
is_inside b (negsuc x) y = false

-- the state of the plane that has the board's live cells, and none outside
abbrev pub live : Board → State
live b (pos x) (pos y) = nat_lt x b.width && nat_lt y b.height && slice_index_or b.cells (y * b.width + x) false
live b (pos x) (negsuc y) = false
live b (negsuc x) y = false

-- both boards have one width and one height
abbrev pub HasSameSize : Board → Board → Type 0
HasSameSize a b = (b.width ≡ a.width) × (b.height ≡ a.height)

-- the new board is the old one after the step at time t, at every cell of the plane: so nothing is live outside
abbrev pub IsStep : ℕ → Board → Board → Type 0
IsStep t old new = (x y : ℤ) → live new x y ≡ step t (live old) x y

-- some cell outside the board is live after the step at time t
pub record LeavesBoard (t : ℕ) (b : Board) : Type 0 where
  pub x : ℤ
  pub y : ℤ
  pub outside : is_inside b x y ≡ false
  pub becomes_live : step t (live b) x y ≡ true

-- the cell at (u, v) is live or dead as said, and no other changes
pub record SetsCell (u v : ℤ) (value : Bool) (old new : Board) : Type 0 where
  pub there : live new u v ≡ value
  pub elsewhere : (x y : ℤ) → ((x ≡ u) × (y ≡ v) → ⊥) → live new x y ≡ live old x y
