use Rattle.headline.proofs.OneListing.{one_list}
use Rattle.headline.proofs.SomeAnswer.{some_list}
use Rattle.headline.proofs.laws.modules_has_one_answer.Goals as goal

pub returns : goal.returns
returns c = record { one = one_list; some = some_list }
