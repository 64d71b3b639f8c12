-- The events so far are far, and so is the last one that was looked at.
use Rattle.border_match.proofs.Imports.{HasNoWindowEventBetween, IsEventOutsideWindow, length, ◌-◌, ◌<◌, ◌≤◌}
use Rattle.border_match.proofs.surroundings.next_near_event_place.Given as goal

abbrev pub invariant-loop-place : goal.invariant-loop-place
invariant-loop-place l = record {
  after : l.from ≤ l.place;
  far : HasNoWindowEventBetween l.window l.events l.from l.place;
}

abbrev pub decreases-loop-place : goal.decreases-loop-place
decreases-loop-place l = length l.events - l.place

abbrev pub invariant-loop-place-2 : goal.invariant-loop-place-2
invariant-loop-place-2 l = record {
  begin : l.begin ≤ l.place;
  within : l.place ≤ l.end;
  far : HasNoWindowEventBetween l.window l.events l.from l.place;
  last : l.begin < l.place → IsEventOutsideWindow l.window l.events (l.place - 1);
}

abbrev pub decreases-loop-place-2 : goal.decreases-loop-place-2
decreases-loop-place-2 l = l.end - l.place
