-- The text is what stands before the place of the feed, and what stands behind it.
use Rattle.section_text.proofs.Imports.{arith, common_steps, take_rest}
use Rattle.section_text.proofs.Lines.{text_behind}
use Rattle.section_text.proofs.feed.Feed.untaken_text.Goals as goal

pub returns : goal.returns
returns c = grind (arith, common_steps, text_behind, take_rest)
