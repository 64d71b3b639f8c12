-- The cells around a box, and events that a search for such cells passes over. All are counted from the corner of
-- another box
use Rattle.std.specs.Prelude.{◌≡◌, ◌≢◌, ℕ, pos, ◌+◌, ◌+ℤ◌, ◌≤ℤ◌, ◌<◌, ◌≤◌, ◌%◌, List, length, Some, slice_get}
use Rattle.std.specs.declared.cmp.Ordering.TheVariants.{Less}
use Rattle.bbm_rule.specs.declared.block.Cell.{Cell}
use Rattle.module_box.specs.Moments.{moment_cmp}
use Rattle.bbm_rule.specs.declared.block.Box2.{Box2}
use Rattle.module_box.specs.declared.schedules.TimedSignal.{TimedSignal}
use Rattle.module_box.specs.declared.schedules.Moment.{Moment}
use Rattle.module_job.specs.Jobs.{JobView}
use Rattle.module_job.specs.Shapes.{shape_of}
use Rattle.border_match.specs.Boards.{IsInOrAroundBox}
use Rattle.border_match.specs.declared.window.Window.{Window}

-- the cell, which is counted from the corner of the second box, is around the first box
abbrev pub IsInOrAroundFromCorner : Box2 → Box2 → Cell → Type 0
IsInOrAroundFromCorner area corner c = IsInOrAroundBox area (c.x +ℤ pos corner.x) (c.y +ℤ pos corner.y)

-- the window's columns and rows are those around the first box, counted from the corner of the second
pub record IsWindowAround (area corner : Box2) (w : Window) : Type 0 where
  pub left : ((w.first.x +ℤ pos corner.x) +ℤ pos 1) ≡ pos area.x
  pub right : (w.last.x +ℤ pos corner.x) ≡ pos (area.x + area.w)
  pub top : ((w.first.y +ℤ pos corner.y) +ℤ pos 1) ≡ pos area.y
  pub bottom : (w.last.y +ℤ pos corner.y) ≡ pos (area.y + area.h)

-- the cell is in the window's columns and rows
pub record IsInWindow (w : Window) (c : Cell) : Type 0 where
  pub left : w.first.x ≤ℤ c.x
  pub right : c.x ≤ℤ w.last.x
  pub top : w.first.y ≤ℤ c.y
  pub bottom : c.y ≤ℤ w.last.y

-- the cells of the events are in the window's columns and rows
abbrev pub IsExtentOfEvents : List TimedSignal → Window → Type 0
IsExtentOfEvents events w = (k : ℕ) (e : TimedSignal) → slice_get events k ≡ Some e → IsInWindow w e.at.cell

-- the cells of the events of a job's ring, counted from the corner of its box, are in the window's columns and rows
abbrev pub IsEdgeEventExtent : JobView → Window → Type 0
IsEdgeEventExtent j = IsExtentOfEvents (shape_of j).edges.events

-- for each job a window that has the cells of the events of its ring
pub record AreEdgeEventExtents (jobs : List JobView) (extents : List Window) : Type 0 where
  pub sized : length extents ≡ length jobs
  pub holds : (k : ℕ) (w : Window) → slice_get extents k ≡ Some w → (j : JobView) → slice_get jobs k ≡ Some j →
      IsEdgeEventExtent j w

-- no moment after the first and before the second is at an odd time and at a cell of the window
abbrev pub HasNoWindowMomentBetween : Window → Moment → Moment → Type 0
HasNoWindowMomentBetween w at next =
    (m : Moment) → moment_cmp at m ≡ Less → moment_cmp m next ≡ Less → m.time % 2 ≡ 1 → ¬ IsInWindow w m.cell

-- the event at the place is at no cell of the window
abbrev pub IsEventOutsideWindow : Window → List TimedSignal → ℕ → Type 0
IsEventOutsideWindow w events place = (e : TimedSignal) → slice_get events place ≡ Some e → ¬ IsInWindow w e.at.cell

-- no event of the list from the first place on and before the second is at an odd time and at a cell of the window
abbrev pub HasNoWindowEventBetween : Window → List TimedSignal → ℕ → ℕ → Type 0
HasNoWindowEventBetween w events place next =
    (i : ℕ) (e : TimedSignal) → place ≤ i → i < next → slice_get events i ≡ Some e →
    e.at.time % 2 ≡ 1 → ¬ IsInWindow w e.at.cell

-- the place of the first event from a place on that is not before the moment, or the end of the list
pub record IsFirstEventNotBefore (events : List TimedSignal) (start : ℕ) (at : Moment) (place : ℕ) : Type 0 where
  pub after : start ≤ place
  pub within : place ≤ length events
  pub passed : (i : ℕ) (e : TimedSignal) → start ≤ i → i < place → slice_get events i ≡ Some e →
      moment_cmp e.at at ≡ Less
  pub rest : (i : ℕ) (e : TimedSignal) → place ≤ i → slice_get events i ≡ Some e → moment_cmp e.at at ≢ Less
