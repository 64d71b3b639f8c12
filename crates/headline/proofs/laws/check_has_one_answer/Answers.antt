use Rattle.headline.proofs.OneReport.{one_report}
use Rattle.headline.proofs.SomeReport.{some_report}
use Rattle.headline.proofs.laws.check_has_one_answer.Goals as goal

pub returns : goal.returns
returns c = record { one = one_report; some = some_report }
