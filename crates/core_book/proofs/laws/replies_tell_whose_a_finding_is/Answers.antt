use Rattle.core_book.proofs.BookLaws.{accepts-its-own, doubles-what_is_held, knows-its-own}
use Rattle.core_book.proofs.laws.replies_tell_whose_a_finding_is.Goals as goal

pub returns : goal.returns
returns c = record { accepted = accepts-its-own; double = doubles-what_is_held; knows_its_own = knows-its-own }
