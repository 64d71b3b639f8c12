use Rattle.module_box.proofs.Imports.{arith, common_steps}
use Rattle.module_box.proofs.MovedBoxes.{all_times_rising, events_rising}
use Rattle.module_box.proofs.schedules.Schedule.moved.Goals as goal

pub new-requires-clause-all_times : goal.new-requires-clause-all_times
new-requires-clause-all_times c = grind (arith, common_steps, all_times_rising)

pub new-requires-clause-events : goal.new-requires-clause-events
new-requires-clause-events c = grind (arith, common_steps, events_rising)
