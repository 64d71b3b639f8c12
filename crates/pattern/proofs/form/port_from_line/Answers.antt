use Rattle.pattern.proofs.Imports.{ap, sym, ◌∙◌}
use Rattle.std.specs.Option.{option_map}
use Rattle.section_text.specs.Feeds.{line_bytes}
use Rattle.section_text.specs.Listed.{list_of_four_words}
use Rattle.section_text.specs.Words.{words_of}
use Rattle.pattern.proofs.PortLines.{port_found}
use Rattle.pattern.proofs.form.port_from_line.Goals as goal

pub returns : goal.returns
returns c =
    c.port_of_words.ensures
    ∙ port_found (words_of (line_bytes c.args.feed.now c.args.line.now)) _ _ _ _
    (sym (ap (option_map list_of_four_words) c.in-Some.is) ∙ c.four_words.ensures)
