use Rattle.core_book.proofs.Imports.{arith, common_steps, length-map, new_book}
use Rattle.core_book.proofs.book.BookState.new.Goals as goal

pub returns : goal.returns
unfolding new_book
returns c = grind (arith, common_steps, length-map)
