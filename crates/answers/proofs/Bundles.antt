-- The result of reading a bundle, and the answer to it.
use Rattle.lemmas.proofs.Common.{[], ◌++◌, ◌+◌, ◌∙◌, ◌∷◌, ◌≡◌, ◌≢◌, Err, List, None, Ok, Result, Some, ap}
use Rattle.lemmas.proofs.Common.{append-nil, ap₂, drop, map, refl, subst, sym, ℕ}
use Rattle.section_text.specs.Words.{lines_of, bytes_after_last_line_feed}
use Rattle.section_text.specs.declared.limits.Limits.{Limits}
use Rattle.section_text.specs.Limits.{limits_line_count}
use Rattle.section_text.specs.Feeds.{FeedView, ahead}
use Rattle.section_text.specs.Faults.{refusal}
use Rattle.section_text.specs.Section.{Reads, FailsAsReading}
use Rattle.section_text.specs.Sections.{section_then, value_if_at_end}
use Rattle.section_text.specs.declared.fault.Refusal.{Refusal}
use Rattle.section_text.specs.declared.fault.ReadFault.{ReadFault}
use Rattle.section_text.specs.declared.fault.ReadFault.TheVariants.{Refused}
use Rattle.section_text.proofs.Joined.{section_read, section_failed, same_text, still_going, fails_along, at_the_end}
use Rattle.section_text.proofs.Joined.{more_fails}
use Rattle.circuit.specs.Grammars.{circuit_grammar, circuit_section}
use Rattle.circuit.specs.declared.circuit_line.CircuitLine.{CircuitLine}
use Rattle.pattern.specs.Grammars.{layout_grammar, layout_section}
use Rattle.pattern.specs.Layout.{Pattern, parts_of}
use Rattle.pattern.specs.declared.layout_line.LayoutLine.{LayoutLine}
use Rattle.pattern.specs.declared.layout_line.LayoutLine.TheVariants.{Mirror, Ball, In, Out, Waste}
use Rattle.pattern.specs.declared.layout_line.Port.{Port}
use Rattle.bbm_rule.specs.declared.block.Box2.{Box2}
use Rattle.bbm_rule.specs.declared.block.Cell.{Cell}
use Rattle.pattern.specs.declared.layout_line.LayoutHeader.{LayoutHeader}
use Rattle.certificate_lines.specs.Entries.{Setting}
use Rattle.certificate.specs.Grammars.{CertView, certificate_grammar, certificate_section}
use Rattle.certificate_lines.specs.Settings.{setting_of}
use Rattle.certificate_lines.specs.declared.certificate_line.CertificateLine.{CertificateLine}
use Rattle.answers.specs.Answers.{AnswersOrRefuses}
use Rattle.answers.specs.BundleReading.{IsDesignRead, TellsRefusal, bundle_of_certificate}
use Rattle.core_book.specs.Concluding.{port_names_of}
use Rattle.pattern.specs.FromLines.{layout_of}
use Rattle.answers.specs.BundleText.{Bundle, bundle_with_limits}
use Rattle.answers.specs.declared.outcome.Outcome.{Outcome}
use Rattle.section_text.specs.declared.code.RefusalCode.TheVariants.{TextCut}

-- ---- a layout is what its lines make

module _ (s : LayoutHeader) where
  mirrors_first : (ms : List Box2) (parts : List LayoutLine) → layout_of s (map Mirror ms ++ parts)
      ≡ record (layout_of s parts) { mirrors = ms ++ (layout_of s parts).mirrors }
  mirrors_first [] parts = refl
  mirrors_first (m ∷ ms) parts = ap (λ (q : Pattern). record q { mirrors = m ∷ q.mirrors }) (mirrors_first ms parts)

  balls_first : (bs : List Cell) (parts : List LayoutLine) → layout_of s (map Ball bs ++ parts)
      ≡ record (layout_of s parts) { balls = bs ++ (layout_of s parts).balls }
  balls_first [] parts = refl
  balls_first (b ∷ bs) parts = ap (λ (q : Pattern). record q { balls = b ∷ q.balls }) (balls_first bs parts)

  ins_first : (ins : List Port) (parts : List LayoutLine) → layout_of s (map In ins ++ parts)
      ≡ record (layout_of s parts) { ins = ins ++ (layout_of s parts).ins }
  ins_first [] parts = refl
  ins_first (p ∷ ins) parts = ap (λ (q : Pattern). record q { ins = p ∷ q.ins }) (ins_first ins parts)

  outs_first : (outs : List Port) (parts : List LayoutLine) → layout_of s (map Out outs ++ parts)
      ≡ record (layout_of s parts) { outs = outs ++ (layout_of s parts).outs }
  outs_first [] parts = refl
  outs_first (p ∷ outs) parts = ap (λ (q : Pattern). record q { outs = p ∷ q.outs }) (outs_first outs parts)

  only_wastes : (ws : List Cell) → layout_of s (map Waste ws)
      ≡ record { size = s; mirrors = []; balls = []; ins = []; outs = []; wastes = ws }
  only_wastes [] = refl
  only_wastes (w ∷ ws) = ap (λ (q : Pattern). record q { wastes = w ∷ q.wastes }) (only_wastes ws)

pub layout_again : (p : Pattern) → layout_of p.size (parts_of p) ≡ p
layout_again p =
    mirrors_first p.size p.mirrors _ ∙ ap (λ (q : Pattern). record q { mirrors = p.mirrors ++ q.mirrors })
    (balls_first p.size p.balls _ ∙ ap (λ (q : Pattern). record q { balls = p.balls ++ q.balls })
    (ins_first p.size p.ins _ ∙ ap (λ (q : Pattern). record q { ins = p.ins ++ q.ins })
    (outs_first p.size p.outs _ ∙ ap (λ (q : Pattern). record q { outs = p.outs ++ q.outs })
    (only_wastes p.size p.wastes))))
    ∙ λ i. record p {
      mirrors = append-nil p.mirrors i;
      balls = append-nil p.balls i;
      ins = append-nil p.ins i;
      outs = append-nil p.outs i;
    }

pub same_setting : (circuit : List CircuitLine) (p : Pattern) →
    setting_of circuit (layout_of p.size (parts_of p)) ≡ setting_of circuit p
same_setting circuit p = ap (setting_of circuit) (layout_again p)

-- ---- the sections of a bundle, one after the other

module _ (l : Limits) (text : List ℕ) where
  whole : List CircuitLine → LayoutHeader → List LayoutLine → ℕ → List CertificateLine → Bundle
  whole circuit size parts version entries =
      record { circuit = circuit; size = size; parts = parts; version = version; entries = entries }

  ended : List CircuitLine → LayoutHeader → List LayoutLine → ℕ → List CertificateLine → ℕ → List (List ℕ) →
      Result Bundle Refusal
  ended circuit size parts version entries k last =
      value_if_at_end k last (bytes_after_last_line_feed text) (whole circuit size parts version entries)

  after_layout : List CircuitLine → LayoutHeader → List LayoutLine → ℕ → List (List ℕ) → Result Bundle Refusal
  after_layout circuit size parts m later =
      section_then (certificate_grammar l (setting_of circuit (layout_of size parts))) m later
      (ended circuit size parts)

  after_circuit : Unit {0} → List CircuitLine → ℕ → List (List ℕ) → Result Bundle Refusal
  after_circuit _ circuit n ahead =
      section_then (layout_grammar l (Some (port_names_of circuit))) n ahead (after_layout circuit)

module _ (l : Limits) (f0 f1 : FeedView) (unread : f0.taken ≡ limits_line_count l) (going : f0.stop ≡ None) where
  from_start : section_then (circuit_grammar l) f0.taken (ahead f0) (after_circuit l f0.text)
      ≡ bundle_with_limits l f0.text
  unfolding bundle_with_limits after_circuit after_layout ended whole
  from_start = ap (λ n. section_then (circuit_grammar l) n (drop n (lines_of f0.text)) (after_circuit l f0.text)) unread

  pub circuit_failed : (fault : ReadFault) →
      Reads {A = List CircuitLine} (circuit_grammar l) circuit_section f0 f1 (Err fault) →
      FailsAsReading fault (bundle_with_limits l f0.text)
  circuit_failed fault reads = subst (FailsAsReading fault) from_start
      (section_failed (circuit_grammar l) circuit_section f0 f1 going (after_circuit l f0.text) fault reads)

  module _ (circuit : List CircuitLine) (read : Reads (circuit_grammar l) circuit_section f0 f1 (Ok circuit)) where
    circuit_read : bundle_with_limits l f0.text ≡ after_circuit l f0.text tt circuit f1.taken (ahead f1)
    circuit_read = sym from_start
        ∙ section_read (circuit_grammar l) circuit_section f0 f1 going (after_circuit l f0.text) circuit read

    going_1 : f1.stop ≡ None
    going_1 = still_going (circuit_grammar l) circuit_section f0 f1 going (after_circuit l f0.text) circuit read

    text_1 : f1.text ≡ f0.text
    text_1 = same_text (circuit_grammar l) circuit_section f0 f1 going (after_circuit l f0.text) circuit read

    pub layout_failed : (f2 : FeedView) (fault : ReadFault) →
        Reads {A = Pattern} (layout_grammar l (Some (port_names_of circuit))) layout_section f1 f2 (Err fault) →
        FailsAsReading fault (bundle_with_limits l f0.text)
    unfolding after_circuit
    layout_failed f2 fault reads =
        fails_along fault (bundle_with_limits l f0.text) _ circuit_read
        (section_failed (layout_grammar l (Some (port_names_of circuit))) layout_section f1 f2 going_1
        (after_layout l f0.text circuit) fault reads)

-- ---- what follows a circuit and a layout that were read

module _ (l : Limits) (f0 f2 : FeedView) (unread : f0.taken ≡ limits_line_count l) (going : f0.stop ≡ None)
    (circuit : List CircuitLine) (layout : Pattern) (design : IsDesignRead l f0 f2 circuit layout) where
  layout_read : bundle_with_limits l f0.text
      ≡ after_layout l f0.text circuit layout.size (parts_of layout) f2.taken (ahead f2)
  unfolding after_circuit
  layout_read = circuit_read l f0 design.between unread going circuit design.circuit_read ∙ section_read
      (layout_grammar l (Some (port_names_of circuit))) layout_section design.between f2
      (going_1 l f0 design.between unread going circuit design.circuit_read)
      (after_layout l f0.text circuit) layout design.layout_read

  going_2 : f2.stop ≡ None
  going_2 = still_going (layout_grammar l (Some (port_names_of circuit))) layout_section design.between f2
      (going_1 l f0 design.between unread going circuit design.circuit_read)
      (after_layout l f0.text circuit) layout design.layout_read

  text_2 : f2.text ≡ f0.text
  text_2 = same_text (layout_grammar l (Some (port_names_of circuit))) layout_section design.between f2
      (going_1 l f0 design.between unread going circuit design.circuit_read)
      (after_layout l f0.text circuit) layout design.layout_read
      ∙ text_1 l f0 design.between unread going circuit design.circuit_read

  setting : Setting
  setting = setting_of circuit (layout_of layout.size (parts_of layout))

  module _ (f3 : FeedView) where
    pub certificate_failed : (fault : ReadFault) →
        Reads {A = CertView} (certificate_grammar l (setting_of circuit layout)) certificate_section f2 f3
        (Err fault) → FailsAsReading fault (bundle_with_limits l f0.text)
    unfolding after_layout setting
    certificate_failed fault reads =
        let right : Reads {A = CertView} (certificate_grammar l setting) certificate_section f2 f3 (Err fault) =
        subst (λ g. Reads {A = CertView} (certificate_grammar l g) certificate_section f2 f3 (Err fault))
        (sym (same_setting circuit layout)) reads in
        fails_along fault (bundle_with_limits l f0.text) _ layout_read
        (section_failed (certificate_grammar l setting) certificate_section f2 f3 going_2
        (ended l f0.text circuit layout.size (parts_of layout)) fault right)

    module _ (cert : CertView) (read_3 : Reads
        (certificate_grammar l (setting_of circuit layout)) certificate_section f2 f3 (Ok cert)) where
      right : Reads (certificate_grammar l setting) certificate_section f2 f3 (Ok cert)
      unfolding setting
      right = subst (λ g. Reads (certificate_grammar l g) certificate_section f2 f3 (Ok cert))
          (sym (same_setting circuit layout)) read_3

      certificate_read : bundle_with_limits l f0.text
          ≡ ended l f0.text circuit layout.size (parts_of layout) cert.version cert.entries f3.taken (ahead f3)
      unfolding after_layout setting
      certificate_read = layout_read
          ∙ section_read (certificate_grammar l setting) certificate_section f2 f3 going_2
          (ended l f0.text circuit layout.size (parts_of layout)) cert right

      pub going_3 : f3.stop ≡ None
      going_3 = still_going (certificate_grammar l setting) certificate_section f2 f3 going_2
          (ended l f0.text circuit layout.size (parts_of layout)) cert right

      text_3 : f3.text ≡ f0.text
      text_3 = same_text (certificate_grammar l setting) certificate_section f2 f3 going_2
          (ended l f0.text circuit layout.size (parts_of layout)) cert right ∙ text_2

      pub bundle_read : cert.circuit ≡ circuit → cert.layout ≡ layout → ahead f3 ≡ [] →
          bytes_after_last_line_feed f3.text ≡ [] → bundle_with_limits l f0.text ≡ Ok (bundle_of_certificate cert)
      unfolding ended whole
      bundle_read same_circuit same_layout none over =
          certificate_read ∙ at_the_end f3.taken (ahead f3) (bytes_after_last_line_feed f0.text)
          (whole l f0.text circuit layout.size (parts_of layout) cert.version cert.entries) none
          (ap bytes_after_last_line_feed (sym text_3) ∙ over)
          ∙ ap₂ (λ cs p. Ok (whole l f0.text cs p.size (parts_of p) cert.version cert.entries)) (sym same_circuit)
          (sym same_layout)

      pub bundle_goes_on : (fault : ReadFault) → (ahead f3 ≡ [] → bytes_after_last_line_feed f3.text ≢ []) →
          fault ≡ refusal (f3.taken + 1) TextCut → FailsAsReading fault (bundle_with_limits l f0.text)
      unfolding ended
      bundle_goes_on fault more is =
          fails_along fault (bundle_with_limits l f0.text) _ certificate_read
          (more_fails f3.taken (ahead f3) (bytes_after_last_line_feed f0.text)
          (whole l f0.text circuit layout.size (parts_of layout) cert.version cert.entries) fault
          (λ none over. more none (ap bytes_after_last_line_feed text_3 ∙ over)) is)

-- ---- answers

-- the line of a refusal is the answer to what fails so
pub refusal_answers : {A : Type 0} (says : A → List ℕ → Outcome → Type 0) (read : Result A Refusal) (fault : ReadFault)
    (output : List ℕ) (outcome : Outcome) → FailsAsReading fault read → TellsRefusal fault output outcome →
    AnswersOrRefuses says read output outcome
refusal_answers says read fault output outcome fails told =
    let fails' : FailsAsReading (Refused told.refusal) read = subst (λ f. FailsAsReading f read) told.refused fails in
    subst (λ r. AnswersOrRefuses says r output outcome) (sym fails') (told.says, told.ends)

pub bundle_answers : (says : Bundle → List ℕ → Outcome → Type 0) (read : Result Bundle Refusal) (cert : CertView)
    (output : List ℕ) (outcome : Outcome) → read ≡ Ok (bundle_of_certificate cert) →
    says (bundle_of_certificate cert) output outcome → AnswersOrRefuses says read output outcome
bundle_answers says read cert output outcome was_read said =
    subst (λ r. AnswersOrRefuses says r output outcome) (sym was_read) said
