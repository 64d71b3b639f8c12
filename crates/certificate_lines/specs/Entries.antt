-- The lines of a certificate between its header and its end, and the modules that they make
use Rattle.std.specs.Prelude.{ℕ, List, [], ◌∷◌, ◌++◌, map, length, Option, Some, None}
use Rattle.std.specs.List.{fold, flat_map}
use Rattle.std.specs.Option.{option_to_list}
use Rattle.circuit.specs.Meaning.{Circuit, wire_of}
use Rattle.pattern.specs.declared.layout_line.Port.{Port}
use Rattle.pattern.specs.declared.layout_line.LayoutHeader.{LayoutHeader}
use Rattle.module_box.specs.Locals.{local_wires}
use Rattle.bbm_rule.specs.declared.block.Box2.{Box2}
use Rattle.certificate_lines.specs.declared.certificate_line.BorderLine.{BorderLine}
use Rattle.certificate_lines.specs.declared.certificate_line.Counts.{Counts}
use Rattle.certificate_lines.specs.declared.certificate_line.CertificateLine.{CertificateLine}
use Rattle.certificate_lines.specs.declared.certificate_line.StopLine.{StopLine}
use Rattle.certificate_lines.specs.declared.certificate_line.CertificateLine.TheVariants.{Module, Cut, Use, Keep, Edge}
use Rattle.certificate_lines.specs.declared.certificate_line.CertificateLine.TheVariants.{Halo, Stop}

-- what a certificate is for: a circuit, and of a layout its size and its ports
pub record Setting : Type 0 where
  pub circuit : Circuit
  pub size : LayoutHeader
  pub ports : List Port

-- ---- modules

-- a module as its lines say it: the box of its `module` line, and the lines after that
pub record ModuleLines : Type 0 where
  pub area : Box2
  pub lines : List CertificateLine

-- a module with one line more
abbrev pub module_with_line : CertificateLine → ModuleLines → ModuleLines
module_with_line i m = record m { lines = m.lines ++ i ∷ [] }

-- a list with its last element changed
unfoldable pub change_last : {X : Type 0} → (X → X) → List X → List X
change_last f [] = []
change_last f (x ∷ []) = f x ∷ []
change_last f (x ∷ y ∷ xs) = x ∷ change_last f (y ∷ xs)

-- the last element of a list, if it has one
unfoldable pub last_of : {X : Type 0} → List X → Option X
last_of [] = None
last_of (x ∷ []) = Some x
last_of (x ∷ y ∷ xs) = last_of (y ∷ xs)

-- a `module` line begins a module, and every other line is one of the last module
unfoldable pub add_line : List ModuleLines → CertificateLine → List ModuleLines
add_line ms (Module b) = ms ++ record { area = b; lines = [] } ∷ []
add_line ms i = change_last (module_with_line i) ms

-- the modules of lines
unfoldable pub modules_of : List CertificateLine → List ModuleLines
modules_of entries = fold add_line [] entries

-- the last module
abbrev pub last_module : List CertificateLine → Option ModuleLines
last_module entries = last_of (modules_of entries)

-- the boxes of modules
abbrev pub areas : List ModuleLines → List Box2
areas ms = map (λ m. m.area) ms

-- ---- the lines of a module by their kinds

-- the name that a line cuts, if it is a cut line
abbrev pub cut_name_in : CertificateLine → List (List ℕ)
cut_name_in (Cut n) = n ∷ []
cut_name_in _ = []

-- the gate that a line uses, if it is a use line
abbrev pub used_gate_in : CertificateLine → List ℕ
used_gate_in (Use k) = k ∷ []
used_gate_in _ = []

-- an edge line, and no other line
abbrev pub edge_in : CertificateLine → List BorderLine
edge_in (Edge e) = e ∷ []
edge_in _ = []

-- a halo line, and no other line
abbrev pub halo_in : CertificateLine → List BorderLine
halo_in (Halo e) = e ∷ []
halo_in _ = []

-- the name in a line, if it has one
abbrev pub wire_name_in_line : CertificateLine → Option (List ℕ)
wire_name_in_line (Cut n) = Some n
wire_name_in_line (Edge e) = e.signal
wire_name_in_line (Halo e) = e.signal
wire_name_in_line (Stop s) = Some s.wire
wire_name_in_line _ = None

-- a stop line, and no other line
abbrev pub stop_in : CertificateLine → List StopLine
stop_in (Stop s) = s ∷ []
stop_in _ = []

-- the gate that a line keeps, if it is a keep line
abbrev pub kept_gate_in : CertificateLine → List ℕ
kept_gate_in (Keep k) = k ∷ []
kept_gate_in _ = []

-- the names of the wires that are cut
abbrev pub cuts : ModuleLines → List (List ℕ)
cuts m = flat_map cut_name_in m.lines

-- the numbers of the gates that are used
abbrev pub gates : ModuleLines → List ℕ
gates m = flat_map used_gate_in m.lines

-- the numbers of the gates that are kept
abbrev pub keeps : ModuleLines → List ℕ
keeps m = flat_map kept_gate_in m.lines

-- the edge lines of a module
abbrev pub edges : ModuleLines → List BorderLine
edges m = flat_map edge_in m.lines

-- the halo lines of a module
abbrev pub halos : ModuleLines → List BorderLine
halos m = flat_map halo_in m.lines

-- the stops of a module
abbrev pub stops : ModuleLines → List StopLine
stops m = flat_map stop_in m.lines

-- how many lines of each kind a module has, and its box; the lines that keep gates are not counted
abbrev pub line_counts_of : ModuleLines → Counts
line_counts_of m = record {
  area = m.area;
  cuts = length (cuts m);
  gates = length (gates m);
  edges = length (edges m);
  halos = length (halos m);
  stops = length (stops m);
}

-- ---- local wires

-- the wires of the circuit that are cut
abbrev pub cut_wires : Circuit → ModuleLines → List ℕ
cut_wires c m = flat_map (λ n. option_to_list (wire_of c n)) (cuts m)

-- the wires that are local in a module: its cuts, and what the gates that it uses define
abbrev pub known : Circuit → ModuleLines → List ℕ
known c m = local_wires c.netlist (cut_wires c m) (gates m)
