use Rattle.section_text.proofs.Imports.{arith, common_steps, length-slice_split}
use Rattle.section_text.proofs.words.count_words_in.Goals as goal

pub returns : goal.returns
returns c = grind (arith, common_steps, length-slice_split)
