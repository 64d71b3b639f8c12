use Rattle.section_text.proofs.Numbers.{number_spelled}
use Rattle.section_text.proofs.laws.one_spelling_of_a_number.Goals as goal

pub returns-clause-short : goal.returns-clause-short
returns-clause-short c = λ word n e. (number_spelled word n e).1
