use Rattle.section_text.proofs.Numbers.{number_read, read_small}
use Rattle.section_text.proofs.number.read_number.Goals as goal

pub returns-then-has_number_length_and_start-clause-number : goal.returns-then-has_number_length_and_start-clause-number
returns-then-has_number_length_and_start-clause-number c = number_read c.args.word.now c.read_digits.result
    (c.has_number_length_and_start.ensures.is_number_if_digits c.if-has_number_length_and_start.true)
    c.read_digits.ensures.number
    c.read_digits.ensures.none_means_no_digits

pub returns-then-has_number_length_and_start-clause-below_a_billion :
    goal.returns-then-has_number_length_and_start-clause-below_a_billion
returns-then-has_number_length_and_start-clause-below_a_billion c = read_small c.args.word.now c.read_digits.result
    (c.has_number_length_and_start.ensures.is_number_if_digits c.if-has_number_length_and_start.true)
    c.read_digits.ensures.number
