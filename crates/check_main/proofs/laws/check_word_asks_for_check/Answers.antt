use Rattle.check_main.proofs.Words.{one_word}
use Rattle.check_main.proofs.laws.check_word_asks_for_check.Goals as goal

pub returns : goal.returns
returns c = one_word
