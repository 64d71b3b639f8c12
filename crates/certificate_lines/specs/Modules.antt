-- The properties of the modules of a certificate that was read
use Rattle.std.specs.Prelude.{◌≡◌, ℕ, ◌<◌, ◌≤◌, ◌%◌, ◌||◌, not, true, List, [], ◌∷◌, length, Some, slice_get, IsTrue}
use Rattle.std.specs.Prelude.{IsFalse, IfSome}
use Rattle.std.specs.List.{All, list_all}
use Rattle.bbm_rule.specs.Boxes.{in_box, in_ring, in_halo, IsEvenBox, Tile}
use Rattle.module_box.specs.Locals.{AreLocalLines, is_among}
use Rattle.module_box.specs.Tiling.{IsInside}
use Rattle.bbm_rule.specs.declared.block.Box2.{Box2}
use Rattle.pattern.specs.declared.layout_line.Port.{Port}
use Rattle.certificate_lines.specs.Entries.{Setting, ModuleLines, areas, cuts, gates, keeps, edges, halos, stops}
use Rattle.certificate_lines.specs.Entries.{cut_wires, known}
use Rattle.certificate_lines.specs.Orders.{AreLinesInOrder}
use Rattle.certificate_lines.specs.Rules.{whole, is_local, is_inverse_gate, is_star, is_starred_line_at}
use Rattle.certificate_lines.specs.Rules.{timed_line_count, timed_line_limit}
use Rattle.certificate_lines.specs.declared.certificate_line.BorderLine.{BorderLine}
use Rattle.certificate_lines.specs.declared.certificate_line.StopLine.{StopLine}
use Rattle.lemmas.specs.Bounds.{max_modules}

-- the time of an edge or halo line is odd and below the steps, and its signal is `1` or a local wire
pub record IsAllowedBorder (g : Setting) (local : List ℕ) (e : BorderLine) : Type 0 where
  pub time : IfSome e.time (λ t. (t % 2 ≡ 1) × (t < g.size.steps))
  pub signal : IfSome e.signal (λ name. IsTrue (is_local g.circuit local name))

-- an edge is in the ring of the box, and not on the rim of the rectangle
pub record IsAllowedEdge (g : Setting) (area : Box2) (local : List ℕ) (e : BorderLine) : Type 0 where
  pub ring : IsTrue (in_ring area e.cell.x e.cell.y)
  pub rim : IsFalse (in_ring (whole g.size) e.cell.x e.cell.y)
  pub border : IsAllowedBorder g local e

-- a halo line is in the halo of the box, and inside the rectangle
pub record IsAllowedHalo (g : Setting) (area : Box2) (local : List ℕ) (e : BorderLine) : Type 0 where
  pub halo : IsTrue (in_halo area e.cell.x e.cell.y)
  pub inside : IsTrue (in_box (whole g.size) e.cell.x e.cell.y)
  pub border : IsAllowedBorder g local e

-- a stop is at a time up to the last one and at a cell of the box, and its wire is local
pub record IsAllowedStop (g : Setting) (area : Box2) (local : List ℕ) (s : StopLine) : Type 0 where
  pub time : s.time ≤ g.size.steps
  pub inside : IsTrue (in_box area s.cell.x s.cell.y)
  pub wire : IsTrue (is_local g.circuit local s.wire)

-- a kept gate is an inverse gate, and it is one of those that are used
pub record MayGateBeKept (g : Setting) (used : List ℕ) (k : ℕ) : Type 0 where
  pub inverse : IsTrue (is_inverse_gate (slice_get g.circuit.netlist.gates k))
  pub among : IsTrue (is_among used k)

-- a line with a `*` and a later one with a time are for different cells
unfoldable pub StarsExcludeLaterTimes : List BorderLine → Type 0
StarsExcludeLaterTimes [] = Unit {0}
StarsExcludeLaterTimes (d ∷ es) =
    (list_all (λ e. is_star e.time || not (is_starred_line_at e.cell d)) es ≡ true) × StarsExcludeLaterTimes es

-- A module: its box is even, has sides of 2 to 64 and lies inside the rectangle. Its cuts and used gates make wires
-- local one after the other. Its lines are in order, and it keeps inverse gates that it uses. Its edge, halo and stop
-- lines have places that they may have, and name local wires. No edge line has a time for a cell that one has a `*`
-- for.
pub record IsModule (g : Setting) (m : ModuleLines) : Type 0 where
  pub even : IsEvenBox m.area
  pub wide : (2 ≤ m.area.w) × (m.area.w ≤ 64)
  pub high : (2 ≤ m.area.h) × (m.area.h ≤ 64)
  pub inside : IsInside g.size.w g.size.h m.area
  -- each cut is a wire of the circuit
  pub named : length (cut_wires g.circuit m) ≡ length (cuts m)
  pub local : AreLocalLines g.circuit.netlist (cut_wires g.circuit m) (gates m)
  pub order : AreLinesInOrder m.lines
  pub keep_lines : All (MayGateBeKept g (gates m)) (keeps m)
  pub unstarred : StarsExcludeLaterTimes (edges m)
  pub edge_lines : All (IsAllowedEdge g m.area (known g.circuit m)) (edges m)
  pub halo_lines : All (IsAllowedHalo g m.area (known g.circuit m)) (halos m)
  pub stop_lines : All (IsAllowedStop g m.area (known g.circuit m)) (stops m)

-- the wires of the ports in the module's box are local
pub record HasLocalPortWires (g : Setting) (m : ModuleLines) : Type 0 where
  pub local : (i : ℕ) (p : Port) → slice_get g.ports i ≡ Some p → IsTrue (in_box m.area p.cell.x p.cell.y) →
      IsTrue (is_local g.circuit (known g.circuit m) p.name)

-- the modules of a certificate: their boxes tile the rectangle
pub record AreModules (g : Setting) (ms : List ModuleLines) : Type 0 where
  pub few : length ms ≤ max_modules
  pub each : (k : ℕ) (m : ModuleLines) → slice_get ms k ≡ Some m → IsModule g m
  pub ports : (k : ℕ) (m : ModuleLines) → slice_get ms k ≡ Some m → HasLocalPortWires g m
  pub tile : Tile (whole g.size) (areas ms)

-- a module has at most 65,536 edge, halo and stop lines of its own
abbrev pub IsWithinLineLimit : ModuleLines → Type 0
IsWithinLineLimit m = timed_line_count m ≤ timed_line_limit
