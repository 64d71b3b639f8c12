-- The circuit section has one text.
use Rattle.circuit.proofs.Imports.{End, Header, Item, append_assoc, arith, common_steps, drop, flat_map, form_text, sym}
use Rattle.circuit.proofs.Imports.{◌∙◌}
use Rattle.section_text.specs.Words.{lines_of}
use Rattle.section_text.proofs.Spelled.{section_text_is}
use Rattle.section_text.proofs.Again.{section_again, lines_of_lines}
use Rattle.circuit.specs.Grammars.{circuit_grammar}
use Rattle.circuit.specs.Text.{circuit_text}
use Rattle.circuit.specs.Laws.{PrintsWhatIsRead, ReadsWhatIsPrinted}
use Rattle.circuit.proofs.Spelling.{form_line}

pub prints_what_is_read : PrintsWhatIsRead
unfolding circuit_text
prints_what_is_read l n ls entries e =
    section_text_is (circuit_grammar l) form_text form_line n ls tt entries e
    ∙ sym (append_assoc (form_text (Header tt)) (flat_map (λ i. form_text (Item i)) entries) (form_text End))

pub reads_what_is_printed : ReadsWhatIsPrinted
reads_what_is_printed l text from n m entries e =
    let ls = drop from (lines_of text) in
    let printed = prints_what_is_read l n ls entries e in
    grind (arith, common_steps, lines_of_lines, section_again)
