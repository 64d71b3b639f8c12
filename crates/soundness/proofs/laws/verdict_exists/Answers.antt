use Rattle.soundness.proofs.SomeVerdict.{some_verdict}
use Rattle.soundness.proofs.laws.verdict_exists.Goals as goal

pub returns : goal.returns
returns c = some_verdict
