-- A bundle: a circuit, a layout for it, and a certificate for both.
use Rattle.std.specs.Prelude.{ℕ, List, Result, Some, drop}
use Rattle.section_text.specs.Words.{lines_of, bytes_after_last_line_feed}
use Rattle.section_text.specs.Limits.{limits_line_count, limits_of}
use Rattle.section_text.specs.declared.limits.Limits.{Limits}
use Rattle.section_text.specs.Sections.{section_then, value_if_at_end}
use Rattle.section_text.specs.declared.fault.Refusal.{Refusal}
use Rattle.circuit.specs.Grammars.{circuit_grammar}
use Rattle.circuit.specs.declared.circuit_line.CircuitLine.{CircuitLine}
use Rattle.pattern.specs.Grammars.{layout_grammar}
use Rattle.pattern.specs.FromLines.{layout_of}
use Rattle.pattern.specs.declared.layout_line.LayoutLine.{LayoutLine}
use Rattle.pattern.specs.declared.layout_line.LayoutHeader.{LayoutHeader}
use Rattle.certificate.specs.Grammars.{certificate_grammar}
use Rattle.certificate_lines.specs.Settings.{setting_of}
use Rattle.core_book.specs.Concluding.{port_names_of}
use Rattle.certificate_lines.specs.declared.certificate_line.CertificateLine.{CertificateLine}

-- what was read of a bundle: the lines of each section
pub record Bundle : Type 0 where
  pub circuit : List CircuitLine
  pub size : LayoutHeader
  pub parts : List LayoutLine
  pub version : ℕ
  pub entries : List CertificateLine

-- With these limits, after their line: a circuit section, a layout section whose ports are named as its inputs and
-- outputs, a certificate section for both, and nothing more.
unfoldable pub bundle_with_limits : Limits → List ℕ → Result Bundle Refusal
bundle_with_limits l text =
    section_then (circuit_grammar l) (limits_line_count l) (drop (limits_line_count l) (lines_of text))
    (λ _ circuit n ahead.
    section_then (layout_grammar l (Some (port_names_of circuit))) n ahead (λ size parts m later.
    section_then (certificate_grammar l (setting_of circuit (layout_of size parts))) m later (λ version entries k last.
    value_if_at_end k last (bytes_after_last_line_feed text)
    (record { circuit = circuit; size = size; parts = parts; version = version; entries = entries }))))

-- with the limits that the text has
unfoldable pub bundle_of : List ℕ → Result Bundle Refusal
bundle_of text = bundle_with_limits (limits_of (lines_of text)) text
