-- The modules of a certificate as they are kept, by the numbers of their wires, and the lines that they make
use Rattle.std.specs.Prelude.{◌≡◌, ℕ, pos, List, ◌∷◌, ◌++◌, map, get_or, [], Some, IfSome, IsTrue}
use Rattle.std.specs.List.{All, flat_map}
use Rattle.std.specs.Option.{option_map}
use Rattle.bbm_rule.specs.declared.block.Cell.{Cell}
use Rattle.bbm_rule.specs.Boxes.{in_box}
use Rattle.pattern.specs.declared.layout_line.LayoutHeader.{LayoutHeader}
use Rattle.certificate_lines.specs.Rules.{whole}
use Rattle.circuit.specs.Meaning.{Circuit, wire_of}
use Rattle.certificate_lines.specs.Entries.{ModuleLines}
use Rattle.certificate_lines.specs.declared.certificate_line.BorderLine.{BorderLine}
use Rattle.certificate_lines.specs.declared.certificate_line.CertificateLine.{CertificateLine}
use Rattle.certificate_lines.specs.declared.certificate_line.StopLine.{StopLine}
use Rattle.certificate_lines.specs.declared.certificate_line.CertificateLine.TheVariants.{Module, Cut, Use, Keep, Edge}
use Rattle.certificate_lines.specs.declared.certificate_line.CertificateLine.TheVariants.{Halo, Stop}
use Rattle.certificate_lines.specs.declared.stored_module.StoredBorder.{StoredBorder}
use Rattle.certificate_lines.specs.declared.stored_module.StoredModule.{StoredModule}
use Rattle.certificate_lines.specs.declared.stored_module.StoredStop.{StoredStop}

-- the name of the wire of a number
abbrev pub wire_name : Circuit → ℕ → List ℕ
wire_name c w = get_or c.names w []

-- the cell of a column and a row
abbrev pub cell_at : ℕ → ℕ → Cell
cell_at column row = record { x = pos column; y = pos row }

-- the edge or halo line that is kept, with its name
abbrev pub border_line : Circuit → StoredBorder → BorderLine
border_line c b =
    record { time = b.time; cell = cell_at b.column b.row; signal = option_map (wire_name c) b.wire }

-- the stop line that is kept, with its name
abbrev pub stop_line : Circuit → StoredStop → StopLine
stop_line c s = record { time = s.time; wire = wire_name c s.wire; cell = cell_at s.column s.row }

-- the lines of a module, by their kinds, with these halo lines
abbrev pub body_lines_with : Circuit → StoredModule → List StoredBorder → List CertificateLine
body_lines_with c m halos =
    map (λ w. Cut (wire_name c w)) m.cuts.items ++ (map Use m.gates.items ++ (map Keep m.keeps.items
    ++ (map (λ b. Edge (border_line c b)) m.edges.items ++ (map (λ b. Halo (border_line c b)) halos
    ++ map (λ s. Stop (stop_line c s)) m.stops.items))))

-- the module with its lines, but with these halo lines
abbrev pub module_lines_with : Circuit → StoredModule → List StoredBorder → ModuleLines
module_lines_with c m halos = record { area = m.area; lines = body_lines_with c m halos }

-- the module with its lines
abbrev pub module_lines : Circuit → StoredModule → ModuleLines
module_lines c m = module_lines_with c m m.halos.items

-- the lines of modules, one after the other
abbrev pub lines_of_modules : Circuit → List StoredModule → List CertificateLine
lines_of_modules c ms = flat_map (λ m. Module m.area ∷ (module_lines c m).lines) ms

-- the cell of an edge or halo line is one of the layout's rectangle
abbrev pub IsCellWithinLayout : LayoutHeader → StoredBorder → Type 0
IsCellWithinLayout size b = IsTrue (in_box (whole size) (pos b.column) (pos b.row))

-- the number is that of the wire of its name
abbrev pub IsCircuitWire : Circuit → ℕ → Type 0
IsCircuitWire c w = wire_of c (wire_name c w) ≡ Some w

-- the wire of an edge or halo line, if it has one, is one of the circuit
abbrev pub HasCircuitWire : Circuit → StoredBorder → Type 0
HasCircuitWire c b = IfSome b.wire (IsCircuitWire c)

-- all wires of a module are wires of the circuit
pub record HasCircuitWires (c : Circuit) (m : StoredModule) : Type 0 where
  pub cuts : All (IsCircuitWire c) m.cuts.items
  pub edges : All (HasCircuitWire c) m.edges.items
  pub halos : All (HasCircuitWire c) m.halos.items
  pub stops : All (λ s. IsCircuitWire c s.wire) m.stops.items
