use Rattle.soundness.proofs.WholeRuns.{steps, steps_with_good_borders}
use Rattle.soundness.proofs.laws.plane_steps_as_jobs.Goals as goal

pub returns-clause-no_fault : goal.returns-clause-no_fault
returns-clause-no_fault c = steps

pub returns-clause-good_borders : goal.returns-clause-good_borders
returns-clause-good_borders c = steps_with_good_borders
