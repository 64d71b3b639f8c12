use Rattle.core_book.proofs.OneVerdict.{verdict-is-one}
use Rattle.core_book.proofs.laws.verdict_is_unique.Goals as goal

pub returns : goal.returns
returns c = verdict-is-one
