use Rattle.core_book.proofs.BookLaws.{books-agree}
use Rattle.core_book.proofs.laws.books_agree_on_faults.Goals as goal

pub returns : goal.returns
returns c = books-agree
