use Rattle.local_run.proofs.Imports.{arith, common_steps, slice_get-get_or}
use Rattle.local_run.proofs.LeapLemmas.{drop_time}
use Rattle.local_run.proofs.leaps.first_event_place_from.Goals as goal

pub loop-low-preserved : goal.loop-low-preserved
loop-low-preserved c = grind (arith, common_steps, drop_time, slice_get-get_or)
