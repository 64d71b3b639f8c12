-- The modules of a certificate as they are kept, and the properties that they have
use Rattle.std.specs.Prelude.{◌≡◌, List, map}
use Rattle.std.specs.List.{All}
use Rattle.bbm_rule.specs.declared.block.Box2.{Box2}
use Rattle.circuit.specs.Bridge.{circuit_of}
use Rattle.circuit.specs.declared.circuit_line.CircuitLine.{CircuitLine}
use Rattle.module_box.specs.Tiling.{IsTilingOwnerTable, OwnersView}
use Rattle.pattern.specs.Layout.{Pattern}
use Rattle.certificate_lines.specs.Entries.{ModuleLines}
use Rattle.certificate_lines.specs.Modules.{AreModules, HasLocalPortWires, IsModule, IsWithinLineLimit}
use Rattle.certificate_lines.specs.Settings.{setting_of}
use Rattle.certificate_lines.specs.StoredModules.{HasCircuitWire, HasCircuitWires, module_lines, module_lines_with}
use Rattle.certificate_lines.specs.declared.stored_module.StoredBorder.{StoredBorder}
use Rattle.certificate_lines.specs.declared.stored_module.StoredModule.{StoredModule}

-- the modules of a circuit with their lines
abbrev pub all_module_lines : List CircuitLine → List StoredModule → List ModuleLines
all_module_lines cs ms = map (module_lines (circuit_of cs)) ms

-- their wires are those of the circuit, and they are the modules of a certificate
pub record AreGoodModules (cs : List CircuitLine) (p : Pattern) (ms : List StoredModule) : Type 0 where
  pub wires : All (HasCircuitWires (circuit_of cs)) ms
  pub modules : AreModules (setting_of cs p) (all_module_lines cs ms)
  pub few_lines : All IsWithinLineLimit (all_module_lines cs ms)

-- the same of one module, which has these halo lines in place of its own
pub record IsGoodModule (cs : List CircuitLine) (p : Pattern) (m : StoredModule) (hs : List StoredBorder) : Type 0 where
  pub wires : HasCircuitWires (circuit_of cs) m
  pub halo_wires : All (HasCircuitWire (circuit_of cs)) hs
  pub lines : IsModule (setting_of cs p) (module_lines_with (circuit_of cs) m hs)
  pub ports : HasLocalPortWires (setting_of cs p) (module_lines_with (circuit_of cs) m hs)

-- the table is of the layout's whole rectangle, and has the box of each cell
pub record IsLayoutOwnerTable (p : Pattern) (boxes : List Box2) (o : OwnersView) : Type 0 where
  pub width : o.width ≡ p.size.w
  pub height : o.height ≡ p.size.h
  pub owners : IsTilingOwnerTable o boxes
