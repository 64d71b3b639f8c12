use Rattle.lemmas.proofs.Common.{ap, sym, take_rest, ◌+◌, ◌∙◌}
use Rattle.section_text.specs.Words.{lines_of}
use Rattle.answers.proofs.KeptLines.{none_behind, others_behind}
use Rattle.answers.proofs.migration.text_after_first_line.Goals as goal

pub returns-in-None : goal.returns-in-None
returns-in-None c = none_behind c.args.text.now (sym c.first_line_feed_place.ensures.first ∙ c.in-None.is)

pub returns-in-Some : goal.returns-in-Some
returns-in-Some c =
    ap lines_of (take_rest c.args.text.now (c.in-Some.length + 1))
    ∙ others_behind c.args.text.now c.in-Some.length (sym c.first_line_feed_place.ensures.first ∙ c.in-Some.is)
