use Rattle.headline.proofs.OneValue.{one_value}
use Rattle.headline.proofs.SomeAnswer.{some_values}
use Rattle.headline.proofs.laws.value_has_one_answer.Goals as goal

pub returns : goal.returns
returns c = record { one = one_value; some = some_values }
