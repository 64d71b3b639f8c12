use Rattle.core_book.proofs.EventLaws.{draws-each-once, empty-where_all_are_drawn}
use Rattle.core_book.proofs.laws.core_draws_each_number_once.Goals as goal

pub returns : goal.returns
returns c = record { drawn_once = draws-each-once; empty = empty-where_all_are_drawn }
