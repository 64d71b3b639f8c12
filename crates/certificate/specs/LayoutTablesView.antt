-- A circuit and a layout with tables of the layout's cells, and their view
use Rattle.std.specs.Prelude.{◌≡◌, ◌+◌, ◌≤◌, ◌++◌, ℕ, ℤ, List, None, false, map, IsTrue, IfSome}
use Rattle.std.specs.List.{All}
use Rattle.bbm_rule.specs.Board.{Board, live}
use Rattle.bbm_rule.specs.declared.block.Cell.{Cell}
use Rattle.circuit.specs.Meaning.{Circuit, wires}
use Rattle.circuit.specs.declared.circuit_line.CircuitLine.{CircuitLine}
use Rattle.bbm_rule.specs.CellLists.{in_cells}
use Rattle.pattern.specs.Layout.{Pattern, in_rectangles}
use Rattle.pattern.specs.declared.layout_line.Port.{Port}
use Rattle.bbm_rule.specs.declared.block.Box2.{Box2}
use Rattle.bbm_rule.specs.Boxes.{in_box}
use Rattle.module_box.specs.Locals.{LocalNet, circuit_wire}
use Rattle.module_job.specs.Signals.{IsSignalWireBelow, IsDemandWireBelow, renumber_demand, renumber_signal}
use Rattle.certificate_lines.specs.PortTables.{ArePortTables, port_at}
use Rattle.certificate_lines.specs.Rules.{is_local}
use Rattle.certificate.specs.Jobs.{end_demand, start_signal}
use Rattle.certificate.specs.declared.layout_tables.CellLists.{CellLists}
use Rattle.certificate.specs.declared.layout_tables.LayoutTables.TheInside.{Inside}
use Rattle.lemmas.specs.Bounds.{max_side}

-- the lines of the circuit, and the layout
pub record LayoutTablesView : Type 0 where
  pub circuit : List CircuitLine
  pub layout : Pattern

-- the circuit and the layout, from the fields
abbrev pub layout_tables_view : Inside → LayoutTablesView
layout_tables_view a = record { circuit = a.circuit.now; layout = a.layout.now }

-- the cells of balls, the waste cells and the cells of ports
abbrev pub ball_waste_and_port_cells : Pattern → List Cell
ball_waste_and_port_cells p = ((p.balls ++ p.wastes) ++ map (λ q. q.cell) p.ins) ++ map (λ q. q.cell) p.outs

-- the layout has no mirror, ball, waste cell or port at the cell (x, y)
pub record HasNothingAt (p : Pattern) (x y : ℤ) : Type 0 where
  pub mirrors : in_rectangles p.mirrors x y ≡ false
  pub balls : in_cells p.balls x y ≡ false
  pub wastes : in_cells p.wastes x y ≡ false
  pub ins : port_at p.ins x y ≡ None
  pub outs : port_at p.outs x y ≡ None

-- the grid is as wide and as high as the layout
abbrev pub HasLayoutSize : Pattern → Board → Type 0
HasLayoutSize p b = (b.width ≡ p.size.w) × (b.height ≡ p.size.h)

-- the rectangle lies on the grid, which has at most 4096 columns and rows
abbrev pub IsOnGrid : Board → Box2 → Type 0
IsOnGrid b r =
    ((r.x + r.w ≤ b.width) × (r.x + r.w ≤ max_side)) × ((r.y + r.h ≤ b.height) × (r.y + r.h ≤ max_side))

-- The live cells of each grid are those of the mirrors, balls or wastes. If `named` is dead at a cell, the cell has
-- nothing. The tables are of the layout's ports.
pub record AreLayoutTables (a : Inside) : Type 0 where
  pub mirrors_size : HasLayoutSize a.layout.now a.mirrors
  pub named_size : HasLayoutSize a.layout.now a.named
  pub mirrors : (x y : ℤ) → live a.mirrors x y ≡ in_rectangles a.layout.now.mirrors x y
  pub balls : (x y : ℤ) → live a.balls x y ≡ in_cells a.layout.now.balls x y
  pub wastes : (x y : ℤ) → live a.wastes x y ≡ in_cells a.layout.now.wastes x y
  pub named : (x y : ℤ) → live a.named x y ≡ false → HasNothingAt a.layout.now x y
  pub ports : ArePortTables a.circuit.now a.layout.now a.ports.now.ins a.ports.now.outs

-- the wire of the port at the cell (x, y) is local, if there is a port
abbrev pub IsPortWireLocalAt : Circuit → List ℕ → List Port → ℤ → ℤ → Type 0
IsPortWireLocalAt c local ports x y = IfSome (port_at ports x y) (λ name. IsTrue (is_local c local name))

-- and that of the port at each cell of the box
abbrev pub ArePortWiresLocalIn : Circuit → List ℕ → List Port → Box2 → Type 0
ArePortWiresLocalIn c local ports b = (x y : ℤ) → IsTrue (in_box b x y) → IsPortWireLocalAt c local ports x y

-- The lists get what the cells carry at time 0, and what they must be at the last time. The signals and demands
-- name wires by the module's own numbers.
pub record AddsStartsAndDemands (c : Circuit) (p : Pattern) (l : LocalNet) (cells : List Cell)
    (old new : CellLists) : Type 0 where
  pub starts : map (renumber_signal (circuit_wire l)) new.starts
      ≡ map (renumber_signal (circuit_wire l)) old.starts ++ map (λ d. start_signal c p d.x d.y) cells
  pub starts_own : All (IsSignalWireBelow (wires l.netlist)) old.starts →
      All (IsSignalWireBelow (wires l.netlist)) new.starts
  pub demands : map (renumber_demand (circuit_wire l)) new.demands
      ≡ map (renumber_demand (circuit_wire l)) old.demands ++ map (λ d. end_demand c p d.x d.y) cells
  pub demands_own : All (IsDemandWireBelow (wires l.netlist)) old.demands →
      All (IsDemandWireBelow (wires l.netlist)) new.demands
