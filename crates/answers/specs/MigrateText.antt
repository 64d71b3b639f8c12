-- The answer of `migrate` to a text: its bundle with a certificate of version 2, or the refusal of the text.
use Rattle.std.specs.Prelude.{◌≡◌, ℕ, List, [], ◌∷◌, ◌++◌, codes, drop, take}
use Rattle.std.specs.List.{flat_map}
use Rattle.std.specs.Fmt.{decimal}
use Rattle.meaning.specs.Design.{front_text, text_limits}
use Rattle.section_text.specs.declared.limits.Limits.{Limits}
use Rattle.section_text.specs.SaidSection.{IsSection}
use Rattle.section_text.specs.Spelling.{line_text}
use Rattle.section_text.specs.Words.{lines_of}
use Rattle.circuit.specs.Text.{circuit_text}
use Rattle.pattern.specs.Text.{part_text, size_words}
use Rattle.pattern.specs.declared.layout_line.LayoutHeader.{LayoutHeader}
use Rattle.pattern.specs.declared.layout_line.LayoutLine.{LayoutLine}
use Rattle.certificate.specs.Text.{entry_text}
use Rattle.certificate_lines.specs.Forms.{form_of}
use Rattle.certificate_lines.specs.Versions.{without_halo_lines}
use Rattle.certificate_lines.specs.declared.certificate_line.CertificateLine.{CertificateLine}
use Rattle.answers.specs.declared.outcome.Outcome.{Outcome}
use Rattle.answers.specs.declared.outcome.Outcome.TheVariants.{Yes}
use Rattle.answers.specs.Answers.{AnswersOrRefuses}
use Rattle.answers.specs.BundleText.{Bundle, bundle_of}

-- a layout section of this size and these parts
unfoldable pub layout_section_text : LayoutHeader → List LayoutLine → List ℕ
layout_section_text size parts = line_text (codes "layout") (size_words size) ++ flat_map part_text parts
    ++ line_text (codes "end") []

-- a certificate section of this version and these lines
unfoldable pub certificate_section_text : ℕ → List CertificateLine → List ℕ
certificate_section_text version entries =
    line_text (codes "certificate") (decimal version ∷ []) ++ flat_map entry_text entries ++ line_text (codes "end") []

-- the text of a bundle: its three sections, with each line spelled in the one way
unfoldable pub bundle_text : Bundle → List ℕ
bundle_text bundle = circuit_text bundle.circuit ++ layout_section_text bundle.size bundle.parts
    ++ certificate_section_text bundle.version bundle.entries

-- The text is the lines of a bundle with these limits. Those from its byte `from` on are its certificate's.
pub record IsBundleText (l : Limits) (bundle : Bundle) (text : List ℕ) (from : ℕ) : Type 0 where
  pub design : take from text
      ≡ front_text l ++ (circuit_text bundle.circuit ++ layout_section_text bundle.size bundle.parts)
  pub section : IsSection form_of (lines_of (drop from text)) bundle.version bundle.entries

-- a bundle with a certificate of version 2, which has no halo lines
abbrev pub migrated_bundle : Bundle → Bundle
migrated_bundle bundle = record bundle { version = 2; entries = without_halo_lines bundle.entries }

-- the text of the bundle in version 2
abbrev pub migrate_of : Bundle → List ℕ
migrate_of bundle = bundle_text (migrated_bundle bundle)

-- the bundle is written in version 2, with the limits of its text
pub record SaysMigration (l : Limits) (bundle : Bundle) (output : List ℕ) (outcome : Outcome) : Type 0 where
  pub says : output ≡ front_text l ++ migrate_of bundle
  pub ends : outcome ≡ Yes

-- what `migrate` writes for a text, and how it ends
abbrev pub IsMigrationOf : List ℕ → List ℕ → Outcome → Type 0
IsMigrationOf text output outcome =
    AnswersOrRefuses (SaysMigration (text_limits text)) (bundle_of text) output outcome
