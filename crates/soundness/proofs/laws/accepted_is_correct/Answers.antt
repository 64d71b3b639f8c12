use Rattle.soundness.proofs.WholeRuns.{correct}
use Rattle.soundness.proofs.laws.accepted_is_correct.Goals as goal

pub returns : goal.returns
returns c = correct
