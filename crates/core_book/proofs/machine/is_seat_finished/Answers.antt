use Rattle.core_book.proofs.Imports.{sym}
use Rattle.core_book.proofs.Counting.{is_seat_finished-last}
use Rattle.core_book.proofs.machine.is_seat_finished.Goals as goal

pub returns-in-Some : goal.returns-in-Some
returns-in-Some c = is_seat_finished-last c.args.count c.args.drawn.now c.in-Some.last.now (sym c.in-Some.ensures.value)
