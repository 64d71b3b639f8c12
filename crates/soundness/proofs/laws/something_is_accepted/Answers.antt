use Rattle.soundness.proofs.Examples.{example}
use Rattle.soundness.proofs.laws.something_is_accepted.Goals as goal

pub returns : goal.returns
returns c = example
