use Rattle.soundness.proofs.WholeRuns.{ends}
use Rattle.soundness.proofs.laws.plane_ends_as_asked.Goals as goal

pub returns : goal.returns
returns c = ends
