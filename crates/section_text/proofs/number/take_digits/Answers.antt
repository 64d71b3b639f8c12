-- What is read of the digits, and what is left, make the number of the whole word.
use Rattle.section_text.proofs.Imports.{arith, common_steps, get_or, is_digit, rules, take_rest, true, ◌+◌, ◌≡◌}
use Rattle.section_text.proofs.Digits.{is_digit_is, one_more, room}
use Rattle.section_text.proofs.Leading.{reads, reads_end, reads_full, reads_more, reads_none, reads_some, reads_whole}
use Rattle.section_text.proofs.number.take_digits.Goals as goal

pub returns-then-b-eq32-clause-number : goal.returns-then-b-eq32-clause-number
returns-then-b-eq32-clause-number c = grind (arith, common_steps, take_rest, reads_some, reads_whole)

pub returns-else-b-eq32-clause-number : goal.returns-else-b-eq32-clause-number
returns-else-b-eq32-clause-number c = grind (arith, common_steps, reads_none, reads_whole)

pub overflow_mul-number : goal.overflow_mul-number
overflow_mul-number c =
    let l = c.loop-at in
    omega (arith, room l.number (l.at + 1) l.invariant.small (omega (arith, c.min-most.ensures)))

pub overflow_add-number : goal.overflow_add-number
overflow_add-number c =
    let l = c.loop-at in
    let digit : is_digit (get_or c.args.line.now l.at 0) ≡ true = search rules in
    omega (
      arith,
      room l.number (l.at + 1) l.invariant.small (omega (arith, c.min-most.ensures)),
      is_digit_is (get_or c.args.line.now l.at 0) digit,
    )

pub loop-at-preserved : goal.loop-at-preserved
loop-at-preserved c = grind (arith, common_steps, is_digit_is, one_more, reads, reads_more)

pub returns-then-line-most-eq32-clause-number : goal.returns-then-line-most-eq32-clause-number
returns-then-line-most-eq32-clause-number c = grind (arith, common_steps, take_rest, reads_some, reads, reads_whole)

pub returns-else-most-line-clause-number : goal.returns-else-most-line-clause-number
returns-else-most-line-clause-number c = grind (arith, common_steps, reads, reads_full, reads_end, reads_whole)
