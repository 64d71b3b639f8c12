-- The job of a module: the data that its run by itself needs
use Rattle.std.specs.Prelude.{◌≡◌, ℕ, ℤ, ◌*◌, ◌<◌, ◌||◌, Bool, true, false, if◌then◌else◌, List, [], ◌∷◌, length, map}
use Rattle.std.specs.Prelude.{Option, Some, None, slice_get, IsTrue}
use Rattle.std.specs.List.{All, flat_map}
use Rattle.circuit.specs.Meaning.{Circuit, wire_of}
use Rattle.bbm_rule.specs.CellLists.{in_cells}
use Rattle.pattern.specs.Layout.{Pattern, in_rectangles}
use Rattle.bbm_rule.specs.Boxes.{in_box}
use Rattle.module_box.specs.Locals.{AreLocalsOf, circuit_gate, circuit_wire}
use Rattle.module_box.specs.Schedules.{Signals}
use Rattle.module_box.specs.declared.schedules.TimedSignal.{TimedSignal}
use Rattle.module_box.specs.declared.schedules.AllTimesSignal.{AllTimesSignal}
use Rattle.module_box.specs.declared.schedules.Signal.{Signal}
use Rattle.module_box.specs.declared.schedules.Signal.TheVariants.{Zero, One, Wire}
use Rattle.certificate_lines.specs.Entries.{ModuleLines, cuts, gates, keeps, edges, halos, stops, known}
use Rattle.module_job.specs.Signals.{renumber_signal, renumber_demand, renumber_signals, renumber_stop}
use Rattle.certificate_lines.specs.declared.certificate_line.BorderLine.{BorderLine}
use Rattle.certificate_lines.specs.declared.certificate_line.StopLine.{StopLine}
use Rattle.module_job.specs.declared.job.Demand.{Demand}
use Rattle.module_job.specs.declared.job.Demand.TheVariants as Demanded
use Rattle.module_job.specs.declared.job.Stop.{Stop}
use Rattle.module_job.specs.Groups.{AreGroups}
use Rattle.module_job.specs.Jobs.{JobView, job_start, job_demand, NamesOnlyOwnWires}
use Rattle.module_job.specs.Shapes.{shape_of}
use Rattle.certificate_lines.specs.PortTables.{port_at}

-- ---- what a layout and the lines of a module ask for, by the wires of the circuit

-- the wire of a name, if there is a name
abbrev pub wire_of_optional_name : Circuit → Option (List ℕ) → Option ℕ
wire_of_optional_name c None = None
wire_of_optional_name c (Some n) = wire_of c n

-- the signal of a wire: without a wire the cell is dead
abbrev pub wire_or_zero : Option ℕ → Signal
wire_or_zero None = Zero
wire_or_zero (Some w) = Wire w

-- mirrors and balls carry `One`, input cells their wire, all other cells `Zero`
unfoldable pub start_signal : Circuit → Pattern → ℤ → ℤ → Signal
start_signal c p x y =
    if in_rectangles p.mirrors x y
    || in_cells p.balls x y then One else wire_or_zero (wire_of_optional_name c (port_at p.ins x y))

-- the demand of a wire: without a wire the cell must be dead
abbrev pub wire_or_dead : Option ℕ → Demand
wire_or_dead None = Demanded.Dead
wire_or_dead (Some w) = Demanded.Wire w

-- the demand on a cell that is in no mirror, by the output at it and by whether it is a waste cell
abbrev pub demand_outside_mirrors : Circuit → Option (List ℕ) → Bool → Demand
demand_outside_mirrors c (Some n) waste = wire_or_dead (wire_of c n)
demand_outside_mirrors c None true = Demanded.Any
demand_outside_mirrors c None false = Demanded.Dead

-- mirrors are to be `Live`, output cells as their wire, waste cells `Any`, all other cells `Dead`
unfoldable pub end_demand : Circuit → Pattern → ℤ → ℤ → Demand
end_demand c p x y =
    if in_rectangles p.mirrors x y then Demanded.Live else demand_outside_mirrors c (port_at p.outs x y)
    (in_cells p.wastes x y)

-- the signal of an edge or halo line: a wire's, or the constant `1`
abbrev pub one_or_named_wire : Circuit → Option (List ℕ) → Signal
one_or_named_wire c None = One
one_or_named_wire c (Some n) = wire_or_zero (wire_of c n)

-- a line with a `*` holds for all odd times
abbrev pub signal_if_starred : BorderLine → Option ℕ → Signal → List AllTimesSignal
signal_if_starred e None signal = record { cell = e.cell; signal = signal } ∷ []
signal_if_starred e (Some t) signal = []

-- and a line with a time for that time
abbrev pub event_if_timed : BorderLine → Option ℕ → Signal → List TimedSignal
event_if_timed e None signal = []
event_if_timed e (Some t) signal = record { at = record { time = t; cell = e.cell }; signal = signal } ∷ []

-- what edge or halo lines say, one after the other
abbrev pub line_signals : Circuit → List BorderLine → Signals
line_signals c es = record {
  all_times = flat_map (λ e. signal_if_starred e e.time (one_or_named_wire c e.signal)) es;
  events = flat_map (λ e. event_if_timed e e.time (one_or_named_wire c e.signal)) es;
}

-- a stop line, if its wire has this number
abbrev pub stop_with_wire_number : StopLine → Option ℕ → List Stop
stop_with_wire_number s None = []
stop_with_wire_number s (Some w) = record { at = record { time = s.time; cell = s.cell }; wire = w } ∷ []

-- what stop lines say, one after the other
abbrev pub stops_of_lines : Circuit → List StopLine → List Stop
stops_of_lines c ss = flat_map (λ s. stop_with_wire_number s (wire_of c s.wire)) ss

-- ---- the job of a module of a circuit and a layout, by the lines of the module
-- the job of a module: its box, the layout's steps, and the wires and gates that the module knows, with what its lines,
-- the circuit and the layout say of its cells
pub record IsJobOf (c : Circuit) (p : Pattern) (m : ModuleLines) (j : JobView) : Type 0 where
  pub area : j.area ≡ m.area
  pub steps : j.steps ≡ p.size.steps
  pub locals : AreLocalsOf c.netlist j.locals
  pub cut : j.locals.netlist.given ≡ length (cuts m)
  pub wires : j.locals.circuit_wires ≡ known c m
  pub used : j.locals.circuit_gates ≡ gates m
  -- one signal and one demand for each cell of the box
  pub start_count : length j.starts ≡ m.area.w * m.area.h
  pub demand_count : length j.demands ≡ m.area.w * m.area.h
  pub start : (x y : ℤ) → IsTrue (in_box m.area x y) →
      renumber_signal (circuit_wire j.locals) (job_start j x y) ≡ start_signal c p x y
  pub demand : (x y : ℤ) → IsTrue (in_box m.area x y) →
      renumber_demand (circuit_wire j.locals) (job_demand j x y) ≡ end_demand c p x y
  pub edges : renumber_signals (circuit_wire j.locals) j.edges ≡ line_signals c (edges m)
  pub halos : renumber_signals (circuit_wire j.locals) j.halos ≡ line_signals c (halos m)
  pub stops : map (renumber_stop (circuit_wire j.locals)) j.stops ≡ stops_of_lines c (stops m)
  -- it names no wires but its own
  pub own : NamesOnlyOwnWires j
  pub kept : map (circuit_gate j.locals) j.kept ≡ keeps m
  pub kept_are_used : All (λ k. k < length j.locals.netlist.gates) j.kept

-- the jobs of modules, one for each
pub record AreJobsOf (c : Circuit) (p : Pattern) (ms : List ModuleLines) (js : List JobView) : Type 0 where
  pub count : length js ≡ length ms
  pub each : (k : ℕ) (m : ModuleLines) (j : JobView) → slice_get ms k ≡ Some m → slice_get js k ≡ Some j →
      IsJobOf c p m j

-- the groups of the modules by the shapes of their jobs: for each module the first whose job has the same shape
pub record HasShapeGroups (c : Circuit) (p : Pattern) (ms : List ModuleLines) (groups : List ℕ) : Type 0 where
  pub jobs : List JobView
  pub are_jobs : AreJobsOf c p ms jobs
  pub are_groups : AreGroups (map shape_of jobs) groups
