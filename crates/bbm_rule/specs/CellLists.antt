-- Lists of cells, and the cells of rows and rectangles
use Rattle.std.specs.Prelude.{ℕ, pos, List, map}
use Rattle.std.specs.List.{list_any, flat_map, range_with_len}
use Rattle.bbm_rule.specs.Plane.{State, is_cell_at}
use Rattle.bbm_rule.specs.declared.block.Box2.{Box2}
use Rattle.bbm_rule.specs.declared.block.Cell.{Cell}

-- whether the cell (x, y) is in the list
abbrev pub in_cells : List Cell → State
in_cells cells x y = list_any (λ c. is_cell_at c x y) cells

-- the cell at this column and row
abbrev pub cell : ℕ → ℕ → Cell
cell x y = record { x = pos x; y = pos y }

-- n cells of row y from column x on
abbrev pub row_cells : ℕ → ℕ → ℕ → List Cell
row_cells x n y = map (λ c. cell c y) (range_with_len x n)

-- the cells of a rectangle, in order of y and then x
unfoldable pub rectangle_cells : Box2 → List Cell
rectangle_cells r = flat_map (λ y. row_cells r.x r.w y) (range_with_len r.y r.h)
