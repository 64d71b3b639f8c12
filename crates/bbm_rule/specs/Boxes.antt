-- Boxes of cells, their rings and halos, and the boxes that tile a rectangle
use Rattle.std.specs.Prelude.{IsTrue, List, Some, not, pos, slice_get, ℕ, ℤ, ◌%◌, ◌&&◌, ◌+ℤ◌, ◌+◌, ◌-ℤ◌, ◌||◌, ◌≡◌}
use Rattle.bbm_rule.specs.Plane.{State}
use Rattle.bbm_rule.specs.Spans.{in_area}
use Rattle.bbm_rule.specs.declared.block.Box2.{Box2}

-- whether the cell (x, y) is in the box
unfoldable pub in_box : Box2 → State
in_box b x y = in_area b.x b.y b.w b.h x y

-- whether one of the eight neighbours of a cell is in a set of cells
unfoldable pub has_neighbour_in_set : State → State
has_neighbour_in_set s x y =
    s (x -ℤ pos 1) (y -ℤ pos 1) || s x (y -ℤ pos 1) || s (x +ℤ pos 1) (y -ℤ pos 1)
    || s (x -ℤ pos 1) y || s (x +ℤ pos 1) y
    || s (x -ℤ pos 1) (y +ℤ pos 1) || s x (y +ℤ pos 1) || s (x +ℤ pos 1) (y +ℤ pos 1)

-- the cells of the box with a neighbour outside it
unfoldable pub in_ring : Box2 → State
in_ring b x y = in_box b x y && has_neighbour_in_set (λ x' y'. not (in_box b x' y')) x y

-- the cells outside the box with a neighbour in it
unfoldable pub in_halo : Box2 → State
in_halo b x y = not (in_box b x y) && has_neighbour_in_set (in_box b) x y

-- the box's corner and its sides are even
pub record IsEvenBox (b : Box2) : Type 0 where
  pub x : b.x % 2 ≡ 0
  pub y : b.y % 2 ≡ 0
  pub w : b.w % 2 ≡ 0
  pub h : b.h % 2 ≡ 0

-- each cell of the rectangle lies in exactly one of the boxes, and no box has a cell outside it
pub record Tile (rectangle : Box2) (boxes : List Box2) : Type 0 where
  pub covered : (x y : ℤ) → IsTrue (in_box rectangle x y) →
      (i : ℕ) × (b : Box2) × (slice_get boxes i ≡ Some b) × IsTrue (in_box b x y)
  pub once : (x y : ℤ) (i j : ℕ) (b b' : Box2) → slice_get boxes i ≡ Some b → slice_get boxes j ≡ Some b' →
      IsTrue (in_box b x y) → IsTrue (in_box b' x y) → i ≡ j
  pub inside : (x y : ℤ) (i : ℕ) (b : Box2) → slice_get boxes i ≡ Some b → IsTrue (in_box b x y) →
      IsTrue (in_box rectangle x y)
