-- The bytes that a reader of the section took are the text of the certificate that it gave.
use Rattle.check_main.proofs.Imports.{CertView, FeedView, List, None, Ok, Option, Result, Some, [], ap}
use Rattle.check_main.proofs.Imports.{certificate_text, drop, sym, take, ℕ, ◌++◌, ◌∙◌, ◌≡◌}
use Rattle.lemmas.proofs.Common.{append-nil, flat_map, take-append-drop}
use Rattle.std.specs.Option.{IfSome}
use Rattle.section_text.specs.Feeds.{ahead}
use Rattle.section_text.specs.Section.{Reads, with_line_feed}
use Rattle.section_text.specs.Words.{bytes_after_last_line_feed, lines_of}
use Rattle.section_text.proofs.Lines.{whole_text}
use Rattle.section_text.specs.declared.fault.ReadFault.{ReadFault}
use Rattle.section_text.specs.declared.limits.Limits.{Limits}
use Rattle.circuit.specs.declared.circuit_line.CircuitLine.{CircuitLine}
use Rattle.pattern.specs.Layout.{Pattern}
use Rattle.certificate_lines.specs.Entries.{Setting}
use Rattle.certificate_lines.specs.Settings.{setting_of}
use Rattle.certificate.specs.Grammars.{certificate_grammar, certificate_section}
use Rattle.certificate.specs.Laws.{PrintsWhatIsRead}
use Rattle.answers.proofs.SectionLines.{more_taken, read as section_read}
use Rattle.check_main.specs.Preparing.{FollowsTakenLines, taken_bytes}

pub text_taken : PrintsWhatIsRead → (l : Limits) (g : Setting) (old new : FeedView) (c : CertView) →
    Reads (certificate_grammar l g) (λ (d : CertView). certificate_section d) old new (Ok c) →
    taken_bytes new ≡ taken_bytes old ++ certificate_text c
text_taken printed l g old new c r =
    more_taken (certificate_grammar l g) (λ (d : CertView). certificate_section d) old new c r
    ∙ ap (λ (t : List ℕ). taken_bytes old ++ t)
    (printed l g old.taken (drop old.taken (lines_of old.text)) c
    (section_read (certificate_grammar l g) (λ (d : CertView). certificate_section d) old new c r).gives)

-- the bytes before are no more than those after
-- a text that was read to its end is that of the lines that were taken
read_to_end : (f : FeedView) → ahead f ≡ [] → bytes_after_last_line_feed f.text ≡ [] → taken_bytes f ≡ f.text
read_to_end f none over =
    let ls = lines_of f.text in
    let all : take f.taken ls ≡ ls =
    sym (append-nil (take f.taken ls)) ∙ ap (λ (t : List (List ℕ)). take f.taken ls ++ t) (sym none)
    ∙ take-append-drop f.taken ls in
    ap (flat_map with_line_feed) all ∙ sym (append-nil (flat_map with_line_feed ls))
    ∙ ap (λ (t : List ℕ). flat_map with_line_feed ls ++ t) (sym over) ∙ whole_text f.text

-- so the certificate's text is what stood behind the lines that were taken before it
pub section_is_rest : PrintsWhatIsRead → (l : Limits) (g : Setting) (old new : FeedView) (c : CertView) →
    Reads (certificate_grammar l g) (λ (d : CertView). certificate_section d) old new (Ok c) → ahead new ≡ [] →
    bytes_after_last_line_feed new.text ≡ [] → FollowsTakenLines old (certificate_text c)
section_is_rest printed l g old new c r none over =
    sym (text_taken printed l g old new c r) ∙ read_to_end new none over
    ∙ ap (λ (f : FeedView). f.text)
    (section_read (certificate_grammar l g) (λ (d : CertView). certificate_section d) old new c r).after

-- what holds of a value if there is one
pub some_weaker : {A : Type 0} (o : Option A) (P Q : A → Type 0) → ((a : A) → P a → Q a) → IfSome o P → IfSome o Q
some_weaker None P Q f h = h
some_weaker (Some a) P Q f h = f a h

-- what reading makes of a section for a circuit and a layout
abbrev pub IsReadFrom : Limits → List CircuitLine → Pattern → FeedView → FeedView → Result CertView ReadFault → Type 0
IsReadFrom l circuit layout old new =
    Reads (certificate_grammar l (setting_of circuit layout)) (λ (d : CertView). certificate_section d) old new
