use Rattle.soundness.proofs.WrongExamples.{wrong_example}
use Rattle.soundness.proofs.laws.some_layout_is_wrong.Goals as goal

pub returns : goal.returns
returns c = wrong_example
