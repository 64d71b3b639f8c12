use Rattle.core_book.proofs.Imports.{[], lists_of, replicate, ◌≡◌}
use Rattle.core_book.proofs.machine.empty_draw_lists.Given as goal

abbrev pub invariant-loop-seat : goal.invariant-loop-seat
invariant-loop-seat l = lists_of l.draws.items ≡ replicate l._seat []
