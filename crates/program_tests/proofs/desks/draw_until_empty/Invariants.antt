use Rattle.lemmas.proofs.Common.{◌-◌}
use Rattle.core_book.specs.Draws.{past_last}
use Rattle.job_pool.specs.Seats.{IsSeatOf}
use Rattle.program_tests.proofs.desks.draw_until_empty.Given as goal

abbrev pub invariant-loop : goal.invariant-loop
invariant-loop l = IsSeatOf l.desk l.seat

abbrev pub decreases-loop : goal.decreases-loop
decreases-loop l = l.desk.numbers - past_last l.seat.drawn.items
