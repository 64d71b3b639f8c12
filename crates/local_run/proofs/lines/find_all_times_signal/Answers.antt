use Rattle.local_run.proofs.Imports.{arith, common_steps, slice_get-get_or}
use Rattle.local_run.proofs.LeapLemmas.{all_times_there, one_more_other}
use Rattle.local_run.proofs.lines.find_all_times_signal.Goals as goal

pub returns-then-eq : goal.returns-then-eq
returns-then-eq c = grind (arith, common_steps, all_times_there, slice_get-get_or)

pub loop-k-preserved : goal.loop-k-preserved
loop-k-preserved c = grind (arith, common_steps, one_more_other, slice_get-get_or)
