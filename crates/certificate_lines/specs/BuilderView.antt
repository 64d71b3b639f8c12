-- The fields of a certificate that is being read, and its view
use Rattle.std.specs.Prelude.{◌≡◌, ℕ, ◌+◌, ◌<◌, ◌≤◌, ◌^◌, ◌≤ℤ◌, ℤ, pos, ◌&&◌, Bool, not, false, List, [], ◌∷◌, ◌++◌}
use Rattle.std.specs.Prelude.{map, length, IfSome, Option, Some, None, slice_get, IsTrue}
use Rattle.std.specs.Option.{is_some, option_map, option_to_list}
use Rattle.circuit.specs.Meaning.{Circuit, Gate, wire_of}
use Rattle.std.specs.List.{All, filter, list_any}
use Rattle.bbm_rule.specs.declared.block.Cell.{Cell}
use Rattle.bbm_rule.specs.Boxes.{in_box, in_halo}
use Rattle.module_box.specs.Tiling.{IsPartialOwnerTable, OwnersView}
use Rattle.bbm_rule.specs.declared.block.Box2.{Box2}
use Rattle.certificate_lines.specs.Entries.{ModuleLines, Setting, areas, edges, halos, known, last_of, modules_of}
use Rattle.certificate_lines.specs.Entries.{wire_name_in_line}
use Rattle.certificate_lines.specs.Rules.{has_nonlocal_port, is_local_wire, is_star, is_starred_line_at, same_cell}
use Rattle.certificate_lines.specs.LineKeys.{key_or_first}
use Rattle.certificate_lines.specs.declared.order.LineKey.{LineKey}
use Rattle.certificate_lines.specs.Modules.{IsWithinLineLimit, IsModule}
use Rattle.certificate_lines.specs.StoredModules.{HasCircuitWires, IsCircuitWire, lines_of_modules, wire_name}
use Rattle.certificate_lines.specs.Versions.{is_nonlocal_signal}
use Rattle.certificate_lines.specs.declared.certificate_line.BorderLine.{BorderLine}
use Rattle.certificate_lines.specs.declared.certificate_line.CertificateLine.{CertificateLine}
use Rattle.certificate_lines.specs.declared.certificate_line.CertificateLine.TheVariants.{Module, Cut, Use, Keep, Edge}
use Rattle.certificate_lines.specs.declared.certificate_line.CertificateLine.TheVariants.{Halo, Stop}
use Rattle.certificate_lines.specs.declared.stored_module.StoredModule.{StoredModule}
use Rattle.certificate_lines.specs.declared.builder.Builder.TheInside.{Inside}
use Rattle.lemmas.specs.Bounds.{last_column_or_row, max_modules}

-- what the certificate is for, and the lines so far
pub record BuilderView : Type 0 where
  pub setting : Setting
  pub entries : List CertificateLine

-- the lines of a builder, from its fields
abbrev pub builder_lines : Inside → List CertificateLine
builder_lines a = lines_of_modules a.tables.circuit a.modules.items

-- the view of a builder, from its fields
abbrev pub builder_view : Inside → BuilderView
builder_view a = record { setting = a.tables; entries = builder_lines a }

-- what is kept of the last module is what its lines say
pub record IsLastModuleTracked (g : Setting) (m : ModuleLines) (last : Option CertificateLine) (local : List ℕ)
    (e h : List Cell) : Type 0 where
  pub final : last_of m.lines ≡ last
  pub wires : local ≡ known g.circuit m
  -- e and h list the cells of the edge and halo lines with a star, in any order
  pub stars : (c : Cell) → list_any (same_cell c) e ≡ list_any (is_starred_line_at c) (edges m)
  pub halo_stars : (c : Cell) → list_any (same_cell c) h ≡ list_any (is_starred_line_at c) (halos m)

-- no cell lies in two of the boxes
pub record AreBoxesDisjoint (boxes : List Box2) : Type 0 where
  pub once : (x y : ℤ) (i j : ℕ) (b b' : Box2) → slice_get boxes i ≡ Some b → slice_get boxes j ≡ Some b' →
      IsTrue (in_box b x y) → IsTrue (in_box b' x y) → i ≡ j

-- a good module within the limit on its edge, halo and stop lines
pub record IsModuleInLimits (g : Setting) (m : ModuleLines) : Type 0 where
  pub good : IsModule g m
  pub few_borders : IsWithinLineLimit m

-- the modules so far are good
pub record AreGoodModulesSoFar (g : Setting) (ms : List ModuleLines) : Type 0 where
  pub few : length ms ≤ max_modules
  pub each : (k : ℕ) (m : ModuleLines) → slice_get ms k ≡ Some m → IsModuleInLimits g m
  pub apart : AreBoxesDisjoint (areas ms)
  -- the ports' wires are local in all modules but the last
  pub ported : (i : ℕ) (m : ModuleLines) → i + 1 < length ms → slice_get ms i ≡ Some m → has_nonlocal_port g m ≡ false

-- the table is of the whole rectangle, and of the boxes of these modules
pub record IsModuleOwnerTable (g : Setting) (ms : List ModuleLines) (o : OwnersView) : Type 0 where
  pub width : o.width ≡ g.size.w
  pub height : o.height ≡ g.size.h
  pub boxes : IsPartialOwnerTable o (areas ms)

-- the modules so far, and what is kept of all of them
pub record AreModulesWithOwners (g : Setting) (ms : List ModuleLines) (o : OwnersView) : Type 0 where
  pub sound : AreGoodModulesSoFar g ms
  pub owners : IsModuleOwnerTable g ms o

-- what is kept of the lines is what they say
pub record AreLinesTracked (g : Setting) (es : List CertificateLine) (o : OwnersView) (last : Option CertificateLine)
    (local : List ℕ) (e h : List Cell) : Type 0 where
  pub built : AreModulesWithOwners g (modules_of es) o
  pub last_module : (m : ModuleLines) → last_of (modules_of es) ≡ Some m → IsLastModuleTracked g m last local e h

-- one of these edge lines is for a cell in the halo of the module, and names a wire that is not local there
abbrev pub lacks_wire_of_some_edge : Circuit → List BorderLine → ModuleLines → Bool
lacks_wire_of_some_edge c es m = list_any (λ e. is_nonlocal_signal c (known c m) e.signal)
    (filter (λ e. in_halo m.area e.cell.x e.cell.y) es)

-- the cell is outside the module, and the wire is unknown or not local there
abbrev pub is_outside_and_nonlocal : Circuit → Cell → Option ℕ → ModuleLines → Bool
is_outside_and_nonlocal c cell wire m = not (in_box m.area cell.x cell.y) && not (is_local_wire (known c m) wire)

-- some module has the cell in its halo, and the wire is unknown or not local there
abbrev pub is_nonlocal_in_neighbour : Circuit → List ModuleLines → Cell → Option ℕ → Bool
is_nonlocal_in_neighbour c ms cell wire =
    list_any (λ m. in_halo m.area cell.x cell.y && not (is_local_wire (known c m) wire)) ms

-- some module has the cell of an edge line in its halo, and its wire is not local there
abbrev pub does_neighbour_lack_wire : Circuit → List ModuleLines → BorderLine → Bool
does_neighbour_lack_wire c ms e =
    list_any (λ m. in_halo m.area e.cell.x e.cell.y && is_nonlocal_signal c (known c m) e.signal) ms

-- The local wires of each module, behind none: `earlier` has those of all modules but the last, and `local` has its.
abbrev pub AreLocalWiresOfModules : Circuit → List ModuleLines → List (List ℕ) → List ℕ → Type 0
AreLocalWiresOfModules c ms earlier local = earlier ++ local ∷ [] ≡ [] ∷ map (known c) ms

-- what is kept of the lines, and of the wires of all modules
pub record AreLinesAndWiresTracked (g : Setting) (es : List CertificateLine) (o : OwnersView)
    (last : Option CertificateLine)
    (key : LineKey) (earlier : List (List ℕ)) (local : List ℕ) (e h : List Cell) : Type 0 where
  pub kept : AreLinesTracked g es o last local e h
  pub wires : AreLocalWiresOfModules g.circuit (modules_of es) earlier local
  pub key_is : key ≡ key_or_first (last_of es)

-- the line, if it is no `module` line
abbrev pub body_line_or_none : Option CertificateLine → Option CertificateLine
body_line_or_none None = None
body_line_or_none (Some (Module b)) = None
body_line_or_none last = last

-- the last line of the last module, if it has one, by all lines
abbrev pub last_body_line : List CertificateLine → Option CertificateLine
last_body_line entries = body_line_or_none (last_of entries)

-- what is kept of modules, and of their lines
pub record AreTrackedModules (g : Setting) (ms : List StoredModule) (o : OwnersView) (key : LineKey)
    (earlier : List (List ℕ))
    (local : List ℕ) (e h : List Cell) : Type 0 where
  pub tracked : AreLinesAndWiresTracked g (lines_of_modules g.circuit ms) o
      (last_body_line (lines_of_modules g.circuit ms))
      key earlier local e h
  pub wires : All (HasCircuitWires g.circuit) ms

-- the fields of every builder: its tables are those of its lines, and the wires of its modules are the circuit's
abbrev pub AreBuilderFields : Inside → Type 0
AreBuilderFields a = AreTrackedModules a.tables a.modules.items a.owners a.last
    (map (λ s. s.items) a.earlier.items) a.known.wires
    a.edges.keys a.halos.keys

-- those of the edge or halo lines that have a `*`
abbrev pub starred_lines : List BorderLine → List BorderLine
starred_lines lines = filter (λ e. is_star e.time) lines

-- ---- a line that is kept by its numbers

-- column and row are those of a cell of a layout
pub record IsWithinMaxSize (c : Cell) : Type 0 where
  pub column : (pos 0 ≤ℤ c.x) × (c.x ≤ℤ pos last_column_or_row)
  pub row : (pos 0 ≤ℤ c.y) × (c.y ≤ℤ pos last_column_or_row)

-- the numbers of a line are small, and a cut or a stop has its wire
abbrev pub MayBeStored : CertificateLine → Option ℕ → Type 0
MayBeStored (Module b) wire = ⊥
MayBeStored (Cut n) wire = IsTrue (is_some wire)
MayBeStored (Use k) wire = k < 2 ^ 16
MayBeStored (Keep k) wire = k < 2 ^ 16
MayBeStored (Edge e) wire = IsWithinMaxSize e.cell
MayBeStored (Halo e) wire = IsWithinMaxSize e.cell
MayBeStored (Stop s) wire = IsWithinMaxSize s.cell × IsTrue (is_some wire)

-- the wire is the circuit's wire of the name in a line, if the line has a name
pub record IsWireOfLine (c : Circuit) (i : CertificateLine) (wire : Option ℕ) : Type 0 where
  pub name : option_map (wire_name c) wire ≡ wire_name_in_line i
  pub own : IfSome wire (IsCircuitWire c)

-- the line is no `module` line
abbrev pub IsBodyLine : CertificateLine → Type 0
IsBodyLine (Module b) = ⊥
IsBodyLine _ = Unit {0}

-- the line is an edge, halo or stop line
abbrev pub IsEdgeHaloOrStopLine : CertificateLine → Type 0
IsEdgeHaloOrStopLine (Edge e) = Unit {0}
IsEdgeHaloOrStopLine (Halo e) = Unit {0}
IsEdgeHaloOrStopLine (Stop s) = Unit {0}
IsEdgeHaloOrStopLine _ = ⊥

-- ---- what a line of a module makes local

-- the wires that a gate defines, if there is a gate
abbrev pub optional_gate_outs : Option Gate → List ℕ
optional_gate_outs None = []
optional_gate_outs (Some gate) = gate.outs

-- the wire that is cut, or what the gate that is used defines
abbrev pub wires_made_local : Circuit → CertificateLine → List ℕ
wires_made_local c (Cut n) = option_to_list (wire_of c n)
wires_made_local c (Use k) = optional_gate_outs (slice_get c.netlist.gates k)
wires_made_local c _ = []
