use Rattle.section_text.proofs.Imports.{arith, common_steps}
use Rattle.section_text.proofs.Splitting.{four_are, many_words, one_word, three_words, two_words}
use Rattle.section_text.proofs.words.split_four_words.Goals as goal

pub returns-in_default : goal.returns-in_default
returns-in_default c = one_word c.args.line.now (c.split_word.ensures.one_word c.in_default.is)

pub returns-in_default-split_word : goal.returns-in_default-split_word
returns-in_default-split_word c = grind (arith, common_steps, two_words)

pub returns-in_default-split_word-2 : goal.returns-in_default-split_word-2
returns-in_default-split_word-2 c = grind (arith, common_steps, three_words)

pub returns-in-Some-split_word-3 : goal.returns-in-Some-split_word-3
returns-in-Some-split_word-3 c = grind (arith, common_steps, many_words)

pub returns-in-None : goal.returns-in-None
returns-in-None c = grind (arith, common_steps, four_are)
