-- The certificate section
use Rattle.std.specs.Prelude.{ℕ, not, ◌==◌, ◌&&◌, ◌||◌, List}
use Rattle.section_text.specs.Codes.{code_if, or_else}
use Rattle.section_text.specs.Section.{Grammar}
use Rattle.pattern.specs.Layout.{Pattern}
use Rattle.certificate_lines.specs.Entries.{Setting, ModuleLines, modules_of}
use Rattle.certificate_lines.specs.Forms.{form_of}
use Rattle.certificate_lines.specs.Rules.{entry_fault, end_fault, module_limit_fault}
use Rattle.section_text.specs.declared.limits.Limits.{Limits}
use Rattle.certificate_lines.specs.Versions.{has_nonlocal_edge_wire_beside, is_halo_line, is_haloless_version}
use Rattle.certificate_lines.specs.Versions.{modules_by_version, without_halo_lines}
use Rattle.certificate_lines.specs.declared.certificate_line.CertificateLine.{CertificateLine}
use Rattle.certificate.specs.declared.version.Version.{Version}
use Rattle.certificate.specs.declared.version.Version.TheVariants.{WithHalos, WithoutHalos}
use Rattle.circuit.specs.declared.circuit_line.CircuitLine.{CircuitLine}
use Rattle.certificate_lines.specs.Settings.{setting_of}
use Rattle.section_text.specs.declared.code.RefusalCode.TheVariants.{NoForm, PastLimit, SomethingMissing}

-- The section, for a circuit and a layout, in a text with these limits. The version is 1 or 2. In version 2 a halo line
-- has no form of the section, and at the end each module knows the wires of the edge lines beside it.
abbrev pub certificate_grammar : Limits → Setting → Grammar ℕ CertificateLine
certificate_grammar l g = record {
  form = form_of;
  header_fault = λ version. code_if (not (version == 1 || version == 2)) PastLimit;
  item_fault = λ version before i.
      or_else (code_if (is_haloless_version version && is_halo_line i) NoForm)
      (or_else (module_limit_fault l g before i) (entry_fault g before i));
  end_fault = λ version entries.
      or_else (end_fault g entries)
      (code_if (is_haloless_version version && has_nonlocal_edge_wire_beside g (modules_of entries)) SomethingMissing);
}

-- the number of a version
abbrev pub version_number : Version → ℕ
version_number WithHalos = 1
version_number WithoutHalos = 2

-- a certificate as contracts see it: the lines of its circuit, its layout, its version, and its lines between the
-- header and the end
pub record CertView : Type 0 where
  pub circuit : List CircuitLine
  pub layout : Pattern
  pub version : ℕ
  pub entries : List CertificateLine

-- what the section gives
abbrev pub certificate_section : CertView → ℕ × List CertificateLine
certificate_section c = (c.version, c.entries)

-- the modules of a certificate, with the halo lines that it has or that its edge lines mean
abbrev pub modules_in : CertView → List ModuleLines
modules_in c = modules_by_version c.version (setting_of c.circuit c.layout) (modules_of c.entries)

-- a certificate written in version 2: without its halo lines
abbrev pub migrated : CertView → CertView
migrated c = record c { version = 2; entries = without_halo_lines c.entries }
