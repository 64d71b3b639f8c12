use Rattle.local_run.proofs.Imports.{AllTimesSignal, HasBothCellMarks, HasRoomForBoxAndHaloMarks, Some, TakesNoMarkOff}
use Rattle.local_run.proofs.Imports.{slice_get, ℕ, ◌<◌, ◌≡◌}
use Rattle.local_run.proofs.lines.mark_starred_cells.Given as goal

-- those so far are marked
abbrev pub invariant-loop-all_times : goal.invariant-loop-all_times
invariant-loop-all_times l = record {
  room : HasRoomForBoxAndHaloMarks l.area l.marks;
  keeps : TakesNoMarkOff l.fn.marks l.marks;
  marked : (i : ℕ) (h : AllTimesSignal) → i < l.all_times-index → slice_get l.list i ≡ Some h →
      HasBothCellMarks l.area h.cell l.marks;
}
