use Rattle.module_box.proofs.Imports.{length, moment_cmp, moment_of, ◌-◌, ◌≤◌}
use Rattle.module_box.proofs.Rising.{IsBetween}
use Rattle.module_box.proofs.schedules.find_event.Given as goal

abbrev pub invariant-loop-low : goal.invariant-loop-low
invariant-loop-low l = (l.high ≤ length l.events) × IsBetween moment_cmp moment_of l.events l.moment l.low l.high

abbrev pub decreases-loop-low : goal.decreases-loop-low
decreases-loop-low l = l.high - l.low
