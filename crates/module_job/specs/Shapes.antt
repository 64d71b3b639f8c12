-- A job in relative form: its shape, and where that lies
use Rattle.std.specs.Prelude.{ℕ, ℤ, pos, ◌-ℤ◌, List, map}
use Rattle.circuit.specs.Meaning.{Netlist}
use Rattle.module_box.specs.Moves.{moved_cell, moved_signals}
use Rattle.module_box.specs.Schedules.{Signals}
use Rattle.bbm_rule.specs.declared.block.Box2.{Box2}
use Rattle.module_box.specs.declared.schedules.Signal.{Signal}
use Rattle.module_job.specs.Jobs.{JobView}
use Rattle.module_job.specs.declared.job.Demand.{Demand}
use Rattle.module_job.specs.declared.job.Stop.{Stop}

-- A job without the place of its box and without the numbers of its wires and gates in the circuit, as if the box's
-- corner were at (0, 0). It has the box's sides, the steps, and the gates over wires of its own. It has what its cells
-- carry at time 0 and what they must be at the last time, row by row, and what the cells of ring and halo carry. It has
-- its stops, and the gates that it keeps by their places.
pub record ShapeView : Type 0 where
  pub width : ℕ
  pub height : ℕ
  pub steps : ℕ
  pub netlist : Netlist
  pub starts : List Signal
  pub demands : List Demand
  pub edges : Signals
  pub halos : Signals
  pub stops : List Stop
  pub kept : List ℕ

-- a stop, moved by dx columns and dy rows
abbrev pub moved_stop : ℤ → ℤ → Stop → Stop
moved_stop dx dy s = record { at = record { time = s.at.time; cell = moved_cell dx dy s.at.cell }; wire = s.wire }

-- signals whose cells are counted from the corner of the box, counted from that of the plane
abbrev pub signals_in_plane : Box2 → Signals → Signals
signals_in_plane b s = moved_signals (pos b.x) (pos b.y) s

-- stops whose cells are counted from the corner of the box, counted from that of the plane
abbrev pub stops_in_plane : Box2 → List Stop → List Stop
stops_in_plane b ss = map (moved_stop (pos b.x) (pos b.y)) ss

-- as far as n, but the other way
abbrev pub shift_to_origin : ℕ → ℤ
shift_to_origin n = pos 0 -ℤ pos n

-- the job of this shape whose box has its corner at (x, y), and whose wires and gates are these of the circuit
abbrev pub job_of_shape : ℕ → ℕ → List ℕ → List ℕ → ShapeView → JobView
job_of_shape x y wires gates s = record {
  area = record { x = x; y = y; w = s.width; h = s.height };
  steps = s.steps;
  locals = record { netlist = s.netlist; circuit_wires = wires; circuit_gates = gates };
  starts = s.starts;
  demands = s.demands;
  edges = moved_signals (pos x) (pos y) s.edges;
  halos = moved_signals (pos x) (pos y) s.halos;
  stops = map (moved_stop (pos x) (pos y)) s.stops;
  kept = s.kept;
}

-- the shape of a job
abbrev pub shape_of : JobView → ShapeView
shape_of j = record {
  width = j.area.w;
  height = j.area.h;
  steps = j.steps;
  netlist = j.locals.netlist;
  starts = j.starts;
  demands = j.demands;
  edges = moved_signals (shift_to_origin j.area.x) (shift_to_origin j.area.y) j.edges;
  halos = moved_signals (shift_to_origin j.area.x) (shift_to_origin j.area.y) j.halos;
  stops = map (moved_stop (shift_to_origin j.area.x) (shift_to_origin j.area.y)) j.stops;
  kept = j.kept;
}
