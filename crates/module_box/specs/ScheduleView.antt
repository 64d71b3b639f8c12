-- The view of a schedule, from the fields
use Rattle.module_box.specs.declared.schedules.Schedule.TheInside.{Inside}
use Rattle.bbm_rule.specs.CellOrder.{cell_cmp}
use Rattle.module_box.specs.Moments.{moment_cmp}
use Rattle.module_box.specs.Schedules.{Signals, IsRising, cell_of, moment_of}

-- the signals of a schedule, from the fields
abbrev pub signals : Inside → Signals
signals s = record { all_times = s.all_times.items; events = s.events.items }

-- both lists rise
pub record IsSchedule (s : Inside) : Type 0 where
  pub all_times : IsRising cell_cmp cell_of s.all_times.items
  pub events : IsRising moment_cmp moment_of s.events.items
