use Rattle.local_run.proofs.Imports.{AreEventPlacesAroundTime, length, ◌-◌, ◌≤◌}
use Rattle.local_run.proofs.leaps.first_event_place_from.Given as goal

abbrev pub invariant-loop-low : goal.invariant-loop-low
invariant-loop-low l = (l.low ≤ l.high) × (l.high ≤ length l.events)
    × AreEventPlacesAroundTime l.events l.time l.low l.high

abbrev pub decreases-loop-low : goal.decreases-loop-low
decreases-loop-low l = l.high - l.low
