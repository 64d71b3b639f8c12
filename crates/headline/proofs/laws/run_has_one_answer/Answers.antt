use Rattle.headline.proofs.OneAnswer.{one_answer}
use Rattle.headline.proofs.SomeRun.{some_run}
use Rattle.headline.proofs.laws.run_has_one_answer.Goals as goal

pub returns : goal.returns
returns c = record { one = one_answer; some = some_run }
