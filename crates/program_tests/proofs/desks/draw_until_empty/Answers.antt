use Rattle.lemmas.proofs.Common.{◌∙◌, ap, arith, sym}
use Rattle.core_book.specs.Draws.{past_last}
use Rattle.program_tests.proofs.desks.draw_until_empty.Goals as goal
use Rattle.core_book.proofs.Counting.{past_last-push}

pub loop-smaller : goal.loop-smaller
loop-smaller c = let before = c.loop.seat in let after = c.claim.new.seat in let a = c.in-Number.ensures.answer in
    let s = past_last-push before.seat.me.0.draws c.in-Number.field-0 in
    let e = ap past_last (sym after.same ∙ a.2) in
    omega arith
