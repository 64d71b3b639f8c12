use Rattle.core_book.proofs.BookLaws.{closed-answers-closed}
use Rattle.core_book.proofs.laws.closed_book_answers_closed.Goals as goal

pub returns : goal.returns
returns c = closed-answers-closed
