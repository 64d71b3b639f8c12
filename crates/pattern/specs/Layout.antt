-- A layout: the size of its rectangle, its steps, and the contents of its cells.
use Rattle.std.specs.Prelude.{◌≡◌, ◌++◌, ℕ, ℤ, ◌&&◌, ◌||◌, Bool, true, List, map, slice_get, Some}
use Rattle.std.specs.List.{list_any}
use Rattle.bbm_rule.specs.Plane.{State, is_cell_at, run}
use Rattle.bbm_rule.specs.Boxes.{in_box}
use Rattle.bbm_rule.specs.CellLists.{in_cells}
use Rattle.bbm_rule.specs.Spans.{in_area}
use Rattle.bbm_rule.specs.declared.block.Cell.{Cell}
use Rattle.bbm_rule.specs.declared.block.Box2.{Box2}
use Rattle.pattern.specs.declared.layout_line.LayoutLine.{LayoutLine}
use Rattle.pattern.specs.declared.layout_line.LayoutLine.TheVariants.{Mirror, Ball, In, Out, Waste}
use Rattle.pattern.specs.declared.layout_line.Port.{Port}
use Rattle.pattern.specs.declared.layout_line.LayoutHeader.{LayoutHeader}

-- a layout: its size, and the lists of its lines by kind
pub record Pattern : Type 0 where
  pub size : LayoutHeader
  pub mirrors : List Box2
  pub balls : List Cell
  pub ins : List Port
  pub outs : List Port
  pub wastes : List Cell

-- the lines of a layout between its first and its last
abbrev pub parts_of : Pattern → List LayoutLine
parts_of p = map Mirror p.mirrors ++ (map Ball p.balls ++ (map In p.ins ++ (map Out p.outs ++ map Waste p.wastes)))

-- ---- sets of cells

-- the whole rectangle of the layout, whose upper left cell is the origin of the plane
abbrev pub in_layout : LayoutHeader → State
in_layout s x y = in_area 0 0 s.w s.h x y

-- whether the cell (x, y) is in one of the rectangles
abbrev pub in_rectangles : List Box2 → State
in_rectangles rectangles x y = list_any (λ r. in_box r x y) rectangles

-- the cells of the ports whose name is on
abbrev pub in_ports_on : (List ℕ → Bool) → List Port → State
in_ports_on on ports x y = list_any (λ p. on p.name && is_cell_at p.cell x y) ports

-- no two ports are at one cell
abbrev pub HaveDistinctCells : List Port → Type 0
HaveDistinctCells ports = (i j : ℕ) (p q : Port) → slice_get ports i ≡ Some p → slice_get ports j ≡ Some q →
    p.cell ≡ q.cell → i ≡ j

-- ---- the run

-- The plane at time 0: the mirrors, the balls, and the input cells whose name is on.
unfoldable pub start : Pattern → (List ℕ → Bool) → State
start p on x y = in_rectangles p.mirrors x y || in_cells p.balls x y || in_ports_on on p.ins x y

-- the plane at time t
abbrev pub plane_at : Pattern → (List ℕ → Bool) → ℕ → State
plane_at p on t = run (start p on) t

-- no live cell lies outside the layout
abbrev pub IsDeadOutside : LayoutHeader → State → Type 0
IsDeadOutside s state = (x y : ℤ) → state x y ≡ true → in_layout s x y ≡ true
