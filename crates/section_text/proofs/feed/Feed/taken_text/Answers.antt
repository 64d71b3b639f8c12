-- The text before the place of the feed is that of the lines that were taken.
use Rattle.section_text.proofs.Imports.{arith, common_steps}
use Rattle.section_text.proofs.Lines.{text_before}
use Rattle.section_text.proofs.feed.Feed.taken_text.Goals as goal

pub returns : goal.returns
returns c = grind (arith, common_steps, text_before)
