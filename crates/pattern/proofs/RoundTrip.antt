-- The layout section has one text.
use Rattle.pattern.proofs.Imports.{End, Header, Item, List, ap, append_assoc, flat_map, form_text, layout_grammar}
use Rattle.pattern.proofs.Imports.{layout_text, length, parts_of, sym, ℕ, ◌+◌, ◌∙◌}
use Rattle.lemmas.proofs.Common.{drop}
use Rattle.section_text.specs.Words.{lines_of}
use Rattle.section_text.specs.Section.{section_of}
use Rattle.section_text.proofs.Spelled.{section_text_is}
use Rattle.section_text.proofs.Again.{section_again, lines_of_lines}
use Rattle.pattern.specs.Laws.{PrintsWhatIsRead, ReadsWhatIsPrinted}
use Rattle.pattern.proofs.Spelling.{form_line}

pub prints_what_is_read : PrintsWhatIsRead
unfolding layout_text
prints_what_is_read l ports n ls p e =
    section_text_is (layout_grammar l ports) form_text form_line n ls p.size (parts_of p) e
    ∙ sym (append_assoc (form_text (Header p.size)) (flat_map (λ i. form_text (Item i)) (parts_of p)) (form_text End))

pub reads_what_is_printed : ReadsWhatIsPrinted
reads_what_is_printed l ports text from n m p e =
    let ls = drop from (lines_of text) in
    let printed = prints_what_is_read l ports n ls p e in
    ap (λ (t : List ℕ). section_of (layout_grammar l ports) m (lines_of t)) (sym printed)
    ∙ ap (section_of (layout_grammar l ports) m) (lines_of_lines text from (length (parts_of p) + 2))
    ∙ section_again (layout_grammar l ports) n m ls p.size (parts_of p) e
