-- The start of a layout as a list, and the end of its whole run.
use Rattle.std.specs.Prelude.{◌≡◌, ℕ, ℤ, ◌≤◌, ◌<◌, Bool, true, false, List, ◌++◌, map}
use Rattle.std.specs.List.{flat_map, filter}
use Rattle.bbm_rule.specs.Plane.{State, run}
use Rattle.bbm_rule.specs.declared.block.Cell.{Cell}
use Rattle.pattern.specs.declared.layout_line.LayoutHeader.{LayoutHeader}
use Rattle.pattern.specs.declared.run.RunEnd.{RunEnd}
use Rattle.pattern.specs.declared.run.RunEnd.TheVariants.{Cells, LeftAt}
use Rattle.bbm_rule.specs.CellLists.{rectangle_cells}
use Rattle.pattern.specs.Layout.{Pattern, IsDeadOutside, in_layout, start, plane_at}

-- some live cell lies outside the layout
pub record IsLiveOutside (s : LayoutHeader) (state : State) : Type 0 where
  pub x : ℤ
  pub y : ℤ
  pub lives : state x y ≡ true
  pub outside : in_layout s x y ≡ false

-- the run that begins with `first` stays inside up to the last step, and `final` is its state then
pub record RunsInside (s : LayoutHeader) (first final : State) : Type 0 where
  pub stays : (k : ℕ) → k ≤ s.steps → IsDeadOutside s (run first k)
  pub last : (x y : ℤ) → final x y ≡ run first s.steps x y

-- in the run that begins with `first`, the step to time k is the first that leaves the layout
pub record RunFirstLeavesAt (s : LayoutHeader) (first : State) (k : ℕ) : Type 0 where
  pub within : k ≤ s.steps
  pub stays : (j : ℕ) → j < k → IsDeadOutside s (run first j)
  pub leaves : IsLiveOutside s (run first k)

-- the cells of the start: the mirrors' row by row, the balls, the input cells whose name is on
unfoldable pub start_cells_by_kind : Pattern → (List ℕ → Bool) → List Cell
start_cells_by_kind p on = flat_map rectangle_cells p.mirrors ++ p.balls
    ++ map (λ q. q.cell) (filter (λ q. on q.name) p.ins)

-- the live cells of the layout, in order of y and then x
unfoldable pub live_cells : LayoutHeader → State → List Cell
live_cells s state = filter (λ c. state c.x c.y) (rectangle_cells (record { x = 0; y = 0; w = s.w; h = s.h }))

-- the plane stays inside up to the last step, and these are its live cells then
pub record EndsWithCells (p : Pattern) (on : List ℕ → Bool) (answer : List Cell) : Type 0 where
  pub stays : (k : ℕ) → k ≤ p.size.steps → IsDeadOutside p.size (plane_at p on k)
  pub cells : answer ≡ live_cells p.size (plane_at p on p.size.steps)

-- the step to time k is the first that leaves the layout
abbrev pub LeavesLayoutAt : Pattern → (List ℕ → Bool) → ℕ → Type 0
LeavesLayoutAt p on k = RunFirstLeavesAt p.size (start p on) k

-- how the whole run ends
abbrev pub IsRunEnd : Pattern → (List ℕ → Bool) → RunEnd → Type 0
IsRunEnd p on (Cells cells) = EndsWithCells p on cells.items
IsRunEnd p on (LeftAt k) = LeavesLayoutAt p on k
