use Rattle.local_run.proofs.Imports.{HasBothCellMarks, HasRoomForBoxAndHaloMarks, Some, TakesNoMarkOff, TimedSignal}
use Rattle.local_run.proofs.Imports.{slice_get, ℕ, ◌<◌, ◌≡◌, ◌≤◌}
use Rattle.local_run.specs.Steady.{HasRoomForNumberMarks, IsCellNumberMarked}
use Rattle.local_run.proofs.lines.mark_events.Given as goal

-- those so far are marked
abbrev pub invariant-loop-k : goal.invariant-loop-k
invariant-loop-k l = record {
  room : HasRoomForBoxAndHaloMarks l.area l.marks;
  keeps : TakesNoMarkOff l.fn.marks l.marks;
  numbers_room : HasRoomForNumberMarks l.area l.numbers;
  numbers_kept : TakesNoMarkOff l.fn.numbers l.numbers;
  numbers_marked : (i : ℕ) (e : TimedSignal) → l.first ≤ i → i < l.k → slice_get l.list i ≡ Some e →
      IsCellNumberMarked l.area e.at.cell l.numbers;
  marked : (i : ℕ) (e : TimedSignal) → l.first ≤ i → i < l.k → slice_get l.list i ≡ Some e →
      HasBothCellMarks l.area e.at.cell l.marks;
}
