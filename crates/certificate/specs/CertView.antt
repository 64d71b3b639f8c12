-- The fields of a certificate, and its view
use Rattle.std.specs.Prelude.{◌≡◌, ◌&&◌, false}
use Rattle.circuit.specs.Bridge.{circuit_of}
use Rattle.certificate.specs.GoodModules.{AreGoodModules, IsLayoutOwnerTable, all_module_lines}
use Rattle.certificate.specs.Grammars.{CertView, version_number}
use Rattle.certificate_lines.specs.Entries.{areas}
use Rattle.certificate_lines.specs.PortTables.{ArePortTables}
use Rattle.certificate_lines.specs.Settings.{setting_of}
use Rattle.certificate_lines.specs.StoredModules.{lines_of_modules}
use Rattle.certificate_lines.specs.Versions.{has_nonlocal_edge_wire_beside, is_haloless_version}
use Rattle.certificate.specs.declared.cert.Cert.TheInside.{Inside}

-- the view of a certificate, from its fields
abbrev pub cert_view : Inside → CertView
cert_view a = record {
  circuit = a.circuit.now;
  layout = a.layout.now;
  version = version_number a.version;
  entries = lines_of_modules (circuit_of a.circuit.now) a.modules.items;
}

-- the fields of every certificate: its modules are good, and its tables are of the layout and of them
pub record AreCertFields (a : Inside) : Type 0 where
  pub good : AreGoodModules a.circuit.now a.layout.now a.modules.items
  pub complete : (is_haloless_version (version_number a.version)
      && has_nonlocal_edge_wire_beside (setting_of a.circuit.now a.layout.now)
      (all_module_lines a.circuit.now a.modules.items))
      ≡ false
  pub owners : IsLayoutOwnerTable a.layout.now (areas (all_module_lines a.circuit.now a.modules.items)) a.owners
  pub ports : ArePortTables a.circuit.now a.layout.now a.ports.ins a.ports.outs
