-- A text that is read is read the same behind the line `limits 2`.
use Rattle.headline.proofs.Imports.{Bundle, Err, List, None, Ok, Option, Refusal, Result, Some, [], ap, arith}
use Rattle.headline.proofs.Imports.{bundle_of, bundle_with_limits, certificate_grammar, circuit_grammar, common_steps}
use Rattle.headline.proofs.Imports.{layout_grammar, layout_of, length, lines_of, port_names_of, refl, setting_of, subst}
use Rattle.headline.proofs.Imports.{sym, ℕ, ◌++◌, ◌+◌, ◌∙◌, ◌∷◌, ◌≡◌}
use Rattle.lemmas.proofs.Common.{ap₂, drop}
use Rattle.circuit.specs.declared.circuit_line.CircuitLine.{CircuitLine}
use Rattle.certificate_lines.specs.declared.certificate_line.CertificateLine.{CertificateLine}
use Rattle.pattern.specs.declared.layout_line.LayoutHeader.{LayoutHeader}
use Rattle.pattern.specs.declared.layout_line.LayoutLine.{LayoutLine}
use Rattle.section_text.specs.Limits.{limits_line_count}
use Rattle.section_text.specs.Section.{Grammar, refused_if_code, result_after_header, result_after_line}
use Rattle.section_text.specs.Section.{section_body_of, section_of}
use Rattle.section_text.specs.Sections.{continue_after_section, section_then, value_if_at_end}
use Rattle.section_text.specs.Words.{bytes_after_last_line_feed, words_of}
use Rattle.section_text.specs.declared.code.RefusalCode.{RefusalCode}
use Rattle.section_text.specs.declared.limits.Limits.{Limits}
use Rattle.section_text.specs.declared.limits.Limits.TheVariants.{First, Second}
use Rattle.section_text.specs.declared.section.Form.{Form}
use Rattle.meaning.specs.Design.{front_text, text_limits}
use Rattle.meaning.proofs.Fronts.{has_front}
use Rattle.pattern.proofs.LimitLaws.{second_limits_are_wider as wider_layout}
use Rattle.certificate.proofs.LimitLaws.{second_limits_are_wider as wider_certificate_line}
use Rattle.headline.specs.Fronts.{FrontLineKeepsReports}

-- ---- grammars of one form, of which the second accepts more

pub record IsWider {H I : Type 0} (g g' : Grammar H I) : Type 0 where
  pub form : (ws : List (List ℕ)) → g'.form ws ≡ g.form ws
  pub header : (h : H) → g.header_fault h ≡ None → g'.header_fault h ≡ None
  pub item : (h : H) (before : List I) (i : I) → g.item_fault h before i ≡ None → g'.item_fault h before i ≡ None
  pub end : (h : H) (items : List I) → g.end_fault h items ≡ None → g'.end_fault h items ≡ None

module _ {H I : Type 0} (g g' : Grammar H I) (wider : IsWider g g') where
  unless_ok : (n : ℕ) (o : Option RefusalCode) (r : Result (H × List I) Refusal) (y : H × List I) →
      refused_if_code n o r ≡ Ok y → (o ≡ None) × (r ≡ Ok y)
  unless_ok n o r y h1 = grind (arith, common_steps)

  passes : (n : ℕ) (o : Option RefusalCode) (r : Result (H × List I) Refusal) (y : H × List I) → o ≡ None →
      r ≡ Ok y → refused_if_code n o r ≡ Ok y
  passes n o r y none ok = ap (λ c. refused_if_code n c r) none ∙ ok

  line_wider : (ls : List (List ℕ)) (h : H) (items : List I) (n m : ℕ) (y : H × List I) (o : Option (Form H I)) →
      result_after_line g h items n (λ i. section_body_of g h (items ++ i ∷ []) (n + 1) ls) o ≡ Ok y →
      ((i : I) → section_body_of g h (items ++ i ∷ []) (n + 1) ls ≡ Ok y →
      section_body_of g' h (items ++ i ∷ []) (m + 1) ls ≡ Ok y) →
      result_after_line g' h items m (λ i. section_body_of g' h (items ++ i ∷ []) (m + 1) ls) o ≡ Ok y
  line_wider ls h items n m y o h1 h2 = grind (arith, common_steps, unless_ok, passes)

  body_wider : (ls : List (List ℕ)) (h : H) (items : List I) (n m : ℕ) (y : H × List I) →
      section_body_of g h items n ls ≡ Ok y → section_body_of g' h items m ls ≡ Ok y
  unfolding section_body_of
  body_wider [] h items n m y e = absurd cc
  body_wider (l ∷ ls) h items n m y e =
      ap (result_after_line g' h items m (λ i. section_body_of g' h (items ++ i ∷ []) (m + 1) ls))
      (wider.form (words_of l))
      ∙ line_wider ls h items n m y (g.form (words_of l)) e
      (λ i. body_wider ls h (items ++ i ∷ []) (n + 1) (m + 1) y)

  header_wider : (ls : List (List ℕ)) (n m : ℕ) (y : H × List I) (o : Option (Form H I)) →
      result_after_header g n (λ h. section_body_of g h [] (n + 1) ls) o ≡ Ok y →
      result_after_header g' m (λ h. section_body_of g' h [] (m + 1) ls) o ≡ Ok y
  header_wider ls n m y o h1 = grind (arith, common_steps, unless_ok, passes, body_wider)

  -- what is read of some lines is read of them by the second one, after any number of lines
  pub section_wider : (ls : List (List ℕ)) (n m : ℕ) (y : H × List I) → section_of g n ls ≡ Ok y →
      section_of g' m ls ≡ Ok y
  unfolding section_of
  section_wider ls n m y h1 = grind (arith, common_steps, header_wider)

  -- a section that is read, and what comes after it
  then_ok : {B : Type 0} (r : Result (H × List I) Refusal) (next : H → List I → Result B Refusal) (b : B) →
      continue_after_section r next ≡ Ok b → (y : H × List I) × (r ≡ Ok y) × (next y.0 y.1 ≡ Ok b)
  then_ok (Ok y) next b e = (y, refl, e)
  then_ok (Err refusal) next b e = absurd cc

  pub then_wider : {B : Type 0} (n m : ℕ) (ls : List (List ℕ))
      (next next' : H → List I → ℕ → List (List ℕ) → Result B Refusal) (b : B) → section_then g n ls next ≡ Ok b →
      ((h : H) (items : List I) (rest : List (List ℕ)) → next h items (n + (length items + 2)) rest ≡ Ok b →
      next' h items (m + (length items + 2)) rest ≡ Ok b) → section_then g' m ls next' ≡ Ok b
  then_wider n m ls next next' b e rec =
      let read = then_ok (section_of g n ls) (λ h items. next h items (n + (length items + 2))
      (drop (length items + 2) ls)) b e in
      let y = read.0 in
      ap (λ r. continue_after_section r (λ h items. next' h items (m + (length items + 2))
      (drop (length items + 2) ls))) (section_wider ls n m y read.1)
      ∙ rec y.0 y.1 (drop (length y.1 + 2) ls) read.2

-- ---- the three sections

wider_circuit : IsWider (circuit_grammar First) (circuit_grammar Second)
wider_circuit = grind (arith, common_steps)

wider_layout_section : (ports : _) → IsWider (layout_grammar First ports) (layout_grammar Second ports)
wider_layout_section ports = record {
  form = λ ws. refl;
  header = λ h e. wider_layout.sizes ports h e;
  item = λ h before i e. wider_layout.lines ports h before i e;
  end = λ h items e. e;
}

wider_certificate : (s : _) → IsWider (certificate_grammar First s) (certificate_grammar Second s)
wider_certificate s = grind (arith, common_steps, wider_certificate_line)

-- ---- bundles

abbrev bundle_by : List CircuitLine → LayoutHeader → List LayoutLine → ℕ → List CertificateLine → Bundle
bundle_by circuit size parts version entries =
    record { circuit = circuit; size = size; parts = parts; version = version; entries = entries }

-- what is left to read after the certificate, after the layout, and after the circuit, before these last bytes
abbrev ended : List ℕ → List CircuitLine → LayoutHeader → List LayoutLine → ℕ → List CertificateLine → ℕ →
    List (List ℕ) → Result Bundle Refusal
ended rest circuit size parts version entries k last =
    value_if_at_end k last rest (bundle_by circuit size parts version entries)

abbrev after_layout : Limits → List ℕ → List CircuitLine → LayoutHeader → List LayoutLine → ℕ → List (List ℕ) →
    Result Bundle Refusal
after_layout l rest circuit size parts m later =
    section_then (certificate_grammar l (setting_of circuit (layout_of size parts))) m later
    (ended rest circuit size parts)

abbrev after_circuit : Limits → List ℕ → Unit {0} → List CircuitLine → ℕ → List (List ℕ) → Result Bundle Refusal
after_circuit l rest h circuit n ahead =
    section_then (layout_grammar l (Some (port_names_of circuit))) n ahead (after_layout l rest circuit)

module _ (rest : List ℕ) (b : Bundle) (circuit : List CircuitLine) where
  wider_end : (size : LayoutHeader) (parts : List LayoutLine) (n m : ℕ) (later : List (List ℕ)) →
      after_layout First rest circuit size parts n later ≡ Ok b →
      after_layout Second rest circuit size parts m later ≡ Ok b
  wider_end size parts n m later e =
      then_wider _ _ (wider_certificate (setting_of circuit (layout_of size parts))) n m later
      (ended rest circuit size parts) (ended rest circuit size parts) b e
      (λ version entries last. grind (arith, common_steps))

  wider_rest : (n m : ℕ) (ahead : List (List ℕ)) → after_circuit First rest tt circuit n ahead ≡ Ok b →
      after_circuit Second rest tt circuit m ahead ≡ Ok b
  wider_rest n m ahead e =
      then_wider _ _ (wider_layout_section (Some (port_names_of circuit))) n m ahead (after_layout First rest circuit)
      (after_layout Second rest circuit) b e
      (λ size parts later. wider_end size parts (n + (length parts + 2)) (m + (length parts + 2)) later)

pub wider_bundle : (text : List ℕ) (b : Bundle) → text_limits text ≡ First → bundle_of text ≡ Ok b →
    bundle_of (front_text Second ++ text) ≡ Ok b
unfolding bundle_of bundle_with_limits
wider_bundle text b first e =
    let behind = has_front Second text first in
    let rest = bytes_after_last_line_feed text in
    let read : section_then (circuit_grammar First) 0 (lines_of text) (after_circuit First rest) ≡ Ok b =
    ap (λ (l : Limits). bundle_with_limits l text) (sym first) ∙ e in
    let lines : drop 1 (lines_of (front_text Second ++ text)) ≡ lines_of text =
    subst (λ (l : Limits). drop (limits_line_count l) (lines_of (front_text Second ++ text)) ≡ lines_of text)
    behind.limits behind.lines in
    ap (λ (l : Limits). bundle_with_limits l (front_text Second ++ text)) behind.limits
    ∙ ap₂ (λ (ls : List (List ℕ)) (last : List ℕ).
    section_then (circuit_grammar Second) 1 ls (after_circuit Second last)) lines behind.rest
    ∙ then_wider _ _ wider_circuit 0 1 (lines_of text) (after_circuit First rest) (after_circuit Second rest) b read
    (λ h circuit ahead. wider_rest rest b circuit (0 + (length circuit + 2)) (1 + (length circuit + 2)) ahead)

-- ---- reports

pub front_line_keeps_reports : FrontLineKeepsReports
front_line_keeps_reports text output outcome first is not_refused = grind (arith, common_steps, wider_bundle)
