-- The design that a text says.
use Rattle.headline.proofs.Imports.{CertificateLine, CircuitLine, List, Ok, Option, Pattern, PortNameLists, SaysBundle}
use Rattle.headline.proofs.Imports.{SaysDesign, Setting, ap, ap₂, certificate_grammar, circuit_grammar, drop}
use Rattle.headline.proofs.Imports.{layout_grammar, layout_section, length, one_section, parts_of, section_of}
use Rattle.headline.proofs.Imports.{section_said, sym, take, take-append-drop, ℕ, ◌++◌, ◌+◌, ◌∙◌, ◌≡◌}
use Rattle.headline.specs.Laws.{SaysOneCertificate, SaysOneDesign}
use Rattle.headline.proofs.OneAnswer.{one_layout}
use Rattle.circuit.specs.Forms.{form_of as circuit_form}
use Rattle.pattern.specs.Forms.{form_of as layout_form}
use Rattle.certificate_lines.specs.Forms.{form_of as certificate_form}
use Rattle.section_text.specs.declared.limits.Limits.{Limits}
use Rattle.meaning.specs.Design.{section_lines}

-- ---- the two sections of a design

pub design_said : (l : Limits) (from : ℕ) (text : List ℕ) (circuit : List CircuitLine) (named : Option PortNameLists)
    (n : ℕ) (layout : Pattern) → section_of (circuit_grammar l) from (section_lines text) ≡ Ok (tt, circuit) →
    section_of (layout_grammar l named) n (drop (length circuit + 2) (section_lines text))
    ≡ Ok (layout_section layout) → SaysDesign text circuit layout
design_said l from text circuit named n layout first second =
    let k = length circuit + 2 in
    let later = drop k (section_lines text) in
    let m = length (layout_section layout).1 + 2 in
    record {
      first = take k (section_lines text);
      second = take m later;
      others = drop m later;
      lines = sym (ap (λ ls. take k (section_lines text) ++ ls) (take-append-drop m later)
          ∙ take-append-drop k (section_lines text));
      circuit_is = section_said (circuit_grammar l) from (section_lines text) tt circuit first;
      layout_is = section_said (layout_grammar l named) n later layout.size (layout_section layout).1 second;
    }

-- and the section after them
pub bundle_said : (l : Limits) (from : ℕ) (text : List ℕ) (circuit : List CircuitLine) (named : Option PortNameLists)
    (n : ℕ) (layout : Pattern) (g : Setting) (m version : ℕ) (lines : List CertificateLine) →
    section_of (circuit_grammar l) from (section_lines text) ≡ Ok (tt, circuit) →
    section_of (layout_grammar l named) n (drop (length circuit + 2) (section_lines text))
    ≡ Ok (layout_section layout) →
    section_of (certificate_grammar l g) m
    (drop (length (layout_section layout).1 + 2) (drop (length circuit + 2) (section_lines text)))
    ≡ Ok (version, lines) → SaysBundle text circuit layout lines
unfolding design_said
bundle_said l from text circuit named n layout g m version lines first second third =
    let d = design_said l from text circuit named n layout first second in
    let k = length lines + 2 in
    record {
      design = d;
      version = version;
      third = take k d.others;
      rest = drop k d.others;
      lines = sym (take-append-drop k d.others);
      certificate_is = section_said (certificate_grammar l g) m d.others version lines third;
    }

-- ---- a text says one design

pub one_design : SaysOneDesign
one_design text circuit circuit' layout layout' says says' =
    let first = one_section circuit_form says.first says'.first (says.second ++ says.others)
    (says'.second ++ says'.others) tt tt circuit circuit'
    (sym says.lines ∙ says'.lines) says.circuit_is says'.circuit_is in
    let second = one_section layout_form says.second says'.second says.others says'.others layout.size layout'.size
    (parts_of layout) (parts_of layout') first.others says.layout_is says'.layout_is in
    (first.items, one_layout layout layout' (ap₂ (λ s ps. (s, ps)) second.header second.items))

pub one_certificate : SaysOneCertificate
one_certificate text circuit circuit' layout layout' lines lines' says says' =
    let d = says.design in
    let d' = says'.design in
    let first = one_section circuit_form d.first d'.first (d.second ++ d.others)
    (d'.second ++ d'.others) tt tt circuit circuit' (sym d.lines ∙ d'.lines) d.circuit_is d'.circuit_is in
    let second = one_section layout_form d.second d'.second d.others d'.others layout.size layout'.size
    (parts_of layout) (parts_of layout') first.others d.layout_is d'.layout_is in
    (one_section certificate_form says.third says'.third says.rest says'.rest says.version says'.version lines lines'
    (sym says.lines ∙ second.others ∙ says'.lines) says.certificate_is says'.certificate_is).items
