use Rattle.headline.proofs.OneListing.{one_migration}
use Rattle.headline.proofs.SomeAnswer.{some_migration}
use Rattle.headline.proofs.laws.migrate_has_one_answer.Goals as goal

pub returns : goal.returns
returns c = record { one = one_migration; some = some_migration }
