-- The lines of the circuit and of the layout as they are, and those of the certificate that stay.
use Rattle.lemmas.proofs.Common.{List, ap, append_assoc, ap₂, drop, flat_map, refl, sym, take_rest, ◌++◌, ◌∙◌, ◌≡◌}
use Rattle.section_text.specs.Section.{with_line_feed}
use Rattle.section_text.specs.Words.{lines_of}
use Rattle.section_text.specs.declared.section.Form.TheVariants.{End, Header}
use Rattle.meaning.specs.Design.{front_text}
use Rattle.circuit.specs.Text.{circuit_text}
use Rattle.certificate_lines.specs.Versions.{without_halo_lines}
use Rattle.certificate.specs.Text.{entry_text, form_text}
use Rattle.answers.specs.BundleText.{Bundle}
use Rattle.answers.specs.KeptLines.{lines_not_beginning_with_h}
use Rattle.answers.specs.MigrateText.{bundle_text, certificate_section_text, layout_section_text, migrate_of}
use Rattle.answers.proofs.KeptLines.{header_line, section_kept}
use Rattle.answers.proofs.migration.migrate.Goals as goal

joined : (b : Bundle) → (circuit_text b.circuit ++ layout_section_text b.size b.parts)
    ++ (form_text (Header 2) ++ flat_map entry_text (without_halo_lines b.entries) ++ form_text End) ≡ migrate_of b
unfolding bundle_text certificate_section_text
joined b = refl

-- four parts one after the other
in_turn : {A : Type 0} (f d h e n : List A) → ((f ++ d) ++ h) ++ (e ++ n) ≡ f ++ (d ++ ((h ++ e) ++ n))
in_turn f d h e n =
    append_assoc (f ++ d) h (e ++ n) ∙ append_assoc f d (h ++ (e ++ n))
    ∙ ap (λ s. f ++ (d ++ s)) (sym (append_assoc h e n))

pub returns : goal.returns
returns c limits bundle is =
    let text = c.args.text.now in
    let from = c.args.from in
    let front = front_text limits in
    let design = circuit_text bundle.circuit ++ layout_section_text bundle.size bundle.parts in
    let lines = flat_map entry_text (without_halo_lines bundle.entries) in
    record {
      says = c.in_ok-push_lines_not_beginning_with_h.ensures
          ∙ ap₂ (λ a b. a ++ b)
          (c.in_ok-extend_from_slice-2.ensures.items
          ∙ ap₂ (λ a b. a ++ b) (c.in_ok-extend_from_slice.ensures.items
          ∙ ap₂ (λ a b. a ++ b) c.new-output.ensures.items is.design) header_line)
          (ap (λ ls. flat_map with_line_feed (lines_not_beginning_with_h ls))
          (c.text_after_first_line.ensures ∙ ap (λ t. drop 1 (lines_of t)) (take_rest text from))
          ∙ section_kept (lines_of (drop from text)) bundle.version bundle.entries is.section)
          ∙ in_turn front design (form_text (Header 2)) lines (form_text End)
          ∙ ap (λ t. front ++ t) (joined bundle);
      ends = refl;
    }
