use Rattle.soundness.proofs.WholeRuns.{on_time}
use Rattle.soundness.proofs.laws.accepted_is_on_time.Goals as goal

pub returns : goal.returns
returns c = on_time
