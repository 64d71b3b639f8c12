-- The certificate section has one text.
use Rattle.certificate.proofs.Imports.{End, Header, Item, append_assoc, arith, certificate_grammar, certificate_text}
use Rattle.certificate.proofs.Imports.{common_steps, drop, flat_map, form_text, sym, ◌∙◌}
use Rattle.section_text.specs.Words.{lines_of}
use Rattle.section_text.proofs.Spelled.{section_text_is}
use Rattle.section_text.proofs.Again.{section_again, lines_of_lines}
use Rattle.certificate.specs.Laws.{PrintsWhatIsRead, ReadsWhatIsPrinted}
use Rattle.certificate.proofs.Spelling.{form_line}

pub prints_what_is_read : PrintsWhatIsRead
unfolding certificate_text
prints_what_is_read l g n ls c e =
    section_text_is (certificate_grammar l g) form_text form_line n ls c.version c.entries e
    ∙ sym (append_assoc (form_text (Header c.version)) (flat_map (λ i. form_text (Item i)) c.entries) (form_text End))

pub reads_what_is_printed : ReadsWhatIsPrinted
reads_what_is_printed l g text from n m c e =
    let ls = drop from (lines_of text) in
    let printed = prints_what_is_read l g n ls c e in
    grind (arith, common_steps, lines_of_lines, section_again)
