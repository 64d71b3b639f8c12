-- The events before `low` are before the moment, and those from `high` on are not.
use Rattle.border_match.proofs.Imports.{length, ◌-◌, ◌≤◌}
use Rattle.border_match.proofs.FarEvents.{AreFrom, ArePassed}
use Rattle.border_match.proofs.surroundings.find_first_event_not_before.Given as goal

abbrev pub invariant-jumps : goal.invariant-jumps
invariant-jumps l = record {
  within : l.high ≤ length l.events;
  after : l.from ≤ l.low;
  ordered : l.low ≤ l.high;
  passed : ArePassed l.events l.from l.low l.at;
}

abbrev pub decreases-jumps : goal.decreases-jumps
decreases-jumps l = length l.events - l.high

abbrev pub invariant-loop-low : goal.invariant-loop-low
invariant-loop-low l = record {
  within : l.high ≤ length l.events;
  after : l.from ≤ l.low;
  ordered : l.low ≤ l.high;
  passed : ArePassed l.events l.from l.low l.at;
  rest : AreFrom l.events l.high l.at;
}

abbrev pub decreases-loop-low : goal.decreases-loop-low
decreases-loop-low l = l.high - l.low
