use Rattle.module_box.proofs.Imports.{cell_cmp, cell_of, length, ◌-◌, ◌≤◌}
use Rattle.module_box.proofs.Rising.{IsBetween}
use Rattle.module_box.proofs.schedules.find_signal_at_all_times.Given as goal

abbrev pub invariant-loop-low : goal.invariant-loop-low
invariant-loop-low l = (l.high ≤ length l.all_times) × IsBetween cell_cmp cell_of l.all_times l.cell l.low l.high

abbrev pub decreases-loop-low : goal.decreases-loop-low
decreases-loop-low l = l.high - l.low
