use Rattle.headline.proofs.PlainTexts.{no_lines_tell}
use Rattle.headline.proofs.laws.lines_of_no_have_meaning.Goals as goal

pub returns : goal.returns
returns c = no_lines_tell
