use Rattle.core_book.proofs.FullBooks.{full_book_holds-all}
use Rattle.core_book.proofs.laws.full_book_holds_all.Goals as goal

pub returns : goal.returns
returns c = full_book_holds-all
