-- Cells of which no line of a module says anything
use Rattle.std.specs.Prelude.{◌≡◌, ℕ, ◌+◌, ◌*◌, ◌/◌, ◌%◌, ◌<◌, ◌≤◌, ◌⊎◌, List, length, slice_get, Some}
use Rattle.bbm_rule.specs.declared.block.Cell.{Cell}
use Rattle.module_box.specs.Schedules.{Signals, signal_at}
use Rattle.bbm_rule.specs.declared.block.Box2.{Box2}
use Rattle.module_box.specs.declared.schedules.AllTimesSignal.{AllTimesSignal}
use Rattle.module_box.specs.declared.schedules.Signal.TheVariants.{Zero}
use Rattle.module_job.specs.Jobs.{JobView}
use Rattle.module_job.specs.Shapes.{ShapeView}
use Rattle.local_run.specs.Places.{halo_coord}
use Rattle.bbm_rule.specs.Marks.{IsNumberUnmarked}
use Rattle.lemmas.specs.Bounds.{max_side}

-- the number of a cell in its plane, for a column and row counted from the halo
abbrev pub cell_number_at : Box2 → ℕ → ℕ → ℕ
cell_number_at b x y = (b.w / 2 + 1) * (y / 2) + x / 2

-- The number of a cell among the marks on lines. These begin with a mark for each number in the planes, and then have
-- four parts of as many marks, one for each plane, by the parities of column and row.
abbrev pub cell_line_mark_number_at : Box2 → ℕ → ℕ → ℕ
cell_line_mark_number_at b x y = cell_number_at b x y + (b.w / 2 + 1) * (b.h / 2 + 1) * (1 + 2 * (y % 2) + x % 2)

-- one of the two marks of a cell is missing
abbrev pub LacksOneOfCellMarks : Box2 → ℕ → ℕ → List ℕ → Type 0
LacksOneOfCellMarks b x y marks =
    IsNumberUnmarked marks (cell_number_at b x y) ⊎ IsNumberUnmarked marks (cell_line_mark_number_at b x y)

-- there is room for the numbers of all cells of a box and its halo
abbrev pub HasRoomForBoxAndHaloMarks : Box2 → List ℕ → Type 0
HasRoomForBoxAndHaloMarks b marks =
    (b.x ≤ max_side) × (b.y ≤ max_side) × (b.w ≤ 64) × (b.h ≤ 64) × (b.w % 2 ≡ 0) × (b.h % 2 ≡ 0)
    × (5 * ((b.w / 2 + 1) * (b.h / 2 + 1)) ≤ 64 * length marks)

-- the cell has both marks, where it is in the box or its halo
abbrev pub HasBothCellMarks : Box2 → Cell → List ℕ → Type 0
HasBothCellMarks b c marks = (x y : ℕ) → x < b.w + 2 → y < b.h + 2 → c.x ≡ halo_coord b.x x → c.y ≡ halo_coord b.y y →
    LacksOneOfCellMarks b x y marks → ⊥

-- no mark is taken off
abbrev pub TakesNoMarkOff : List ℕ → List ℕ → Type 0
TakesNoMarkOff old new = (u : ℕ) → IsNumberUnmarked new u → IsNumberUnmarked old u

-- the cells of signals at all times have marks
abbrev pub AreStarredCellsMarked : Signals → Box2 → List ℕ → Type 0
AreStarredCellsMarked s b marks =
    (i : ℕ) (h : AllTimesSignal) → slice_get s.all_times i ≡ Some h → HasBothCellMarks b h.cell marks

-- the box of a shape, with its corner at (0, 0)
abbrev pub box_at_origin : ShapeView → Box2
box_at_origin s = record { x = 0; y = 0; w = s.width; h = s.height }

-- marks, a word for 64, that leave no cell out of which a line of a shape says something at all times
pub record AreStarredCellMarks (s : ShapeView) (marks : List ℕ) : Type 0 where
  pub room : HasRoomForBoxAndHaloMarks (box_at_origin s) marks
  pub edges : AreStarredCellsMarked s.edges (box_at_origin s) marks
  pub halos : AreStarredCellsMarked s.halos (box_at_origin s) marks

-- at cells that lack a mark the signal of a schedule at time t is `Zero`
abbrev pub AreUnmarkedSignalsZero : Signals → Box2 → ℕ → List ℕ → Type 0
AreUnmarkedSignalsZero s b t marks = (x y : ℕ) → x < b.w + 2 → y < b.h + 2 → LacksOneOfCellMarks b x y marks →
    signal_at s t (halo_coord b.x x) (halo_coord b.y y) ≡ Zero

-- marks that leave no cell out of which an edge or halo line of a job says something at time t
pub record AreLineMarks (j : JobView) (t : ℕ) (marks : List ℕ) : Type 0 where
  pub room : 5 * ((j.area.w / 2 + 1) * (j.area.h / 2 + 1)) ≤ 64 * length marks
  pub edges : AreUnmarkedSignalsZero j.edges j.area t marks
  pub halos : AreUnmarkedSignalsZero j.halos j.area t marks
