-- The properties of every certificate that was read, with its circuit and its layout
use Rattle.std.specs.Prelude.{◌≡◌, None, [], take}
use Rattle.std.specs.List.{All}
use Rattle.circuit.specs.Bridge.{input_names, netlist_of}
use Rattle.circuit.specs.Entries.{defined}
use Rattle.circuit.specs.Meaning.{AreGatesOrdered}
use Rattle.pattern.specs.Layout.{parts_of}
use Rattle.pattern.specs.Lines.{AreGoodAfter, size_fault}
use Rattle.certificate.specs.Grammars.{CertView, modules_in}
use Rattle.certificate_lines.specs.Entries.{modules_of}
use Rattle.certificate_lines.specs.Modules.{AreModules, IsWithinLineLimit}
use Rattle.certificate_lines.specs.Settings.{setting_of}

-- `good` is `written` with the halo lines that edge lines mean in version 2.
pub record IsValidCertificate (c : CertView) : Type 0 where
  pub ordered : AreGatesOrdered (netlist_of c.circuit).given (netlist_of c.circuit).gates
  pub inputs : take (netlist_of c.circuit).given (defined c.circuit) ≡ input_names c.circuit
  pub limits : size_fault c.layout.size ≡ None
  pub parts : AreGoodAfter c.layout.size [] (parts_of c.layout)
  pub written : AreModules (setting_of c.circuit c.layout) (modules_of c.entries)
  pub good : AreModules (setting_of c.circuit c.layout) (modules_in c)
  pub lines : All IsWithinLineLimit (modules_of c.entries)
