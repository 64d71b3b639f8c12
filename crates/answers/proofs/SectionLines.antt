-- The bytes of the lines that a reader took, section by section.
use Rattle.lemmas.proofs.Common.{◌++◌, ◌+◌, ◌∙◌, ◌≡◌, ◌≤◌, List, None, Ok, Option, Some, ap, ap₂, append_assoc, arith}
use Rattle.lemmas.proofs.Common.{drop, drop-append_seam, flat_map, flat_map-append, length, length-append, refl, subst}
use Rattle.lemmas.proofs.Common.{sym, take, take-add, take-append_seam, ℕ}
use Rattle.section_text.specs.Feeds.{FeedView, ahead}
use Rattle.section_text.specs.Limits.{limits_line_count, limits_of}
use Rattle.section_text.specs.SaidSection.{IsSection}
use Rattle.section_text.specs.Section.{Grammar, Reads, ReadsSection, with_line_feed}
use Rattle.section_text.specs.Words.{lines_of}
use Rattle.section_text.specs.declared.limits.Limits.{Limits}
use Rattle.section_text.specs.declared.fault.ReadFault.{ReadFault}
use Rattle.section_text.proofs.Again.{lines_of_lines}
use Rattle.section_text.proofs.SaidSections.{section_said}
use Rattle.circuit.specs.Grammars.{circuit_grammar, circuit_section}
use Rattle.circuit.specs.Text.{circuit_text}
use Rattle.circuit.specs.declared.circuit_line.CircuitLine.{CircuitLine}
use Rattle.circuit.proofs.RoundTrip.{prints_what_is_read as circuit_printed}
use Rattle.pattern.specs.Grammars.{layout_grammar, layout_section}
use Rattle.pattern.specs.Layout.{Pattern, parts_of}
use Rattle.pattern.specs.Text.{layout_text}
use Rattle.pattern.proofs.RoundTrip.{prints_what_is_read as layout_printed}
use Rattle.meaning.specs.Design.{front_text}
use Rattle.meaning.proofs.Fronts.{front_spelled}
use Rattle.certificate_lines.specs.Entries.{Setting}
use Rattle.certificate_lines.specs.Forms.{form_of}
use Rattle.certificate.specs.Grammars.{CertView, certificate_grammar, certificate_section}
use Rattle.answers.specs.BundleReading.{IsDesignRead}
use Rattle.answers.specs.MigrateText.{layout_section_text}
use Rattle.core_book.specs.Concluding.{port_names_of}

-- the bytes of the lines that were taken
abbrev pub bytes_taken : FeedView → List ℕ
bytes_taken f = flat_map with_line_feed (take f.taken (lines_of f.text))

-- a feed that has a fault gives no value, so this one has read the section
section_read : {H I A : Type 0} (g : Grammar H I) (view : A → H × List I) (old new : FeedView) (a : A)
    (o : Option ReadFault) → old.stop ≡ o → Reads g view old new (Ok a) → ReadsSection g view old new (Ok a)
section_read g view old new a None e r = r.reads e
section_read g view old new a (Some fault) e r = absurd ((r.stopped fault e).0)

-- the lines of a section that was read, and the bytes that were taken after it
module _ {H I A : Type 0} (g : Grammar H I) (view : A → H × List I) (old new : FeedView) (a : A)
    (reads : Reads g view old new (Ok a)) where
  pub read : ReadsSection g view old new (Ok a)
  read = section_read g view old new a old.stop refl reads

  pub more_taken : bytes_taken new
      ≡ bytes_taken old ++ flat_map with_line_feed (take (length (view a).1 + 2) (ahead old))
  more_taken =
      ap bytes_taken read.after
      ∙ ap (flat_map with_line_feed) (take-add old.taken (length (view a).1 + 2) (lines_of old.text))
      ∙ flat_map-append with_line_feed (take old.taken (lines_of old.text)) (take (length (view a).1 + 2) (ahead old))

-- the bytes before are no more than those after
pub section_bytes : (before after text : List ℕ) → after ≡ before ++ text →
    (length before ≤ length after) × (take (length before) after ≡ before) × (drop (length before) after ≡ text)
section_bytes before after text e =
    let longer = ap length e ∙ length-append before text in (
      omega (arith, longer),
      ap (take (length before)) e ∙ take-append_seam before text,
      ap (drop (length before)) e ∙ drop-append_seam before text,
    )

-- a circuit and a layout that were read from the lines behind those of the limits
module _ (l : Limits) (f0 f2 : FeedView) (circuit : List CircuitLine) (layout : Pattern)
    (own : l ≡ limits_of (lines_of f0.text)) (unread : f0.taken ≡ limits_line_count l)
    (design : IsDesignRead l f0 f2 circuit layout) where
  front : bytes_taken f0 ≡ front_text l
  front =
      ap (λ (n : ℕ). flat_map with_line_feed (take n (lines_of f0.text))) (unread ∙ ap limits_line_count own)
      ∙ front_spelled (lines_of f0.text) ∙ ap front_text (sym own)

  circuit_bytes : bytes_taken design.between ≡ front_text l ++ circuit_text circuit
  circuit_bytes =
      more_taken (circuit_grammar l) circuit_section f0 design.between circuit design.circuit_read
      ∙ ap₂ (λ a b. a ++ b) front (circuit_printed l f0.taken (ahead f0) circuit
      (read (circuit_grammar l) circuit_section f0 design.between circuit design.circuit_read).gives)

  pub design_bytes : bytes_taken f2 ≡ front_text l
      ++ (circuit_text circuit ++ layout_section_text layout.size (parts_of layout))
  unfolding layout_text layout_section_text
  design_bytes =
      more_taken (layout_grammar l (Some (port_names_of circuit))) layout_section design.between f2 layout
      design.layout_read
      ∙ ap₂ (λ a b. a ++ b) circuit_bytes
      (layout_printed l (Some (port_names_of circuit)) design.between.taken (ahead design.between) layout
      (read (layout_grammar l (Some (port_names_of circuit))) layout_section design.between f2 layout
      design.layout_read).gives)
      ∙ append_assoc (front_text l) (circuit_text circuit) (layout_text layout)

module _ (l : Limits) (g : Setting) (old new : FeedView) (c : CertView)
    (reads : Reads (certificate_grammar l g) (λ (d : CertView). certificate_section d) old new (Ok c))
    (before after : List ℕ) (are_before : before ≡ bytes_taken old) (are_after : after ≡ bytes_taken new) where
  own_lines : List (List ℕ)
  own_lines = take (length c.entries + 2) (ahead old)

  parts : (length before ≤ length after) × (take (length before) after ≡ before)
      × (drop (length before) after ≡ flat_map with_line_feed own_lines)
  unfolding own_lines
  parts = section_bytes before after (flat_map with_line_feed own_lines)
      (are_after ∙ more_taken (certificate_grammar l g) (λ (d : CertView). certificate_section d) old new c reads
      ∙ ap (λ t. t ++ flat_map with_line_feed own_lines) (sym are_before))

  pub longer : length before ≤ length after
  longer = parts.0

  pub bytes_before : take (length before) after ≡ bytes_taken old
  bytes_before = parts.1 ∙ are_before

  -- the bytes behind those before have these lines
  pub section_lines : IsSection form_of (lines_of (drop (length before) after)) c.version c.entries
  unfolding own_lines
  section_lines =
      subst (λ ls. IsSection form_of ls c.version c.entries)
      (sym (ap lines_of parts.2 ∙ lines_of_lines old.text old.taken (length c.entries + 2)))
      (section_said (certificate_grammar l g) old.taken (ahead old) c.version c.entries
      (read (certificate_grammar l g) (λ (d : CertView). certificate_section d) old new c reads).gives)
