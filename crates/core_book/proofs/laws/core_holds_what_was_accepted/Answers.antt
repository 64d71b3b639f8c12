use Rattle.core_book.proofs.EventLaws.{accepts-one_for_each, events-replay, holds-honest_own, holds-what_was_accepted}
use Rattle.core_book.proofs.laws.core_holds_what_was_accepted.Goals as goal

pub returns : goal.returns
returns c = record {
  accepted = holds-what_was_accepted;
  one = accepts-one_for_each;
  honest = holds-honest_own;
  replays = events-replay;
}
