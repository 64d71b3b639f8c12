use Rattle.soundness.proofs.WholeRuns.{starts}
use Rattle.soundness.proofs.laws.plane_starts_as_jobs.Goals as goal

pub returns : goal.returns
returns c = starts
