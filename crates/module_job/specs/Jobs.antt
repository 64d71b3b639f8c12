-- A job: the data that the run of a module by itself needs
use Rattle.std.specs.Prelude.{ℕ, ℤ, ◌+◌, ◌<◌, ◌≤◌, if◌then◌else◌, List, unwrap_or, slice_get, IsTrue}
use Rattle.std.specs.List.{All}
use Rattle.circuit.specs.Meaning.{wires}
use Rattle.bbm_rule.specs.Boxes.{in_box, IsEvenBox}
use Rattle.module_box.specs.Locals.{LocalNet}
use Rattle.module_box.specs.Moments.{moment_cmp}
use Rattle.module_box.specs.Schedules.{Signals, IsRising}
use Rattle.bbm_rule.specs.declared.block.Box2.{Box2}
use Rattle.module_box.specs.declared.schedules.Moment.{Moment}
use Rattle.module_box.specs.declared.schedules.Signal.{Signal}
use Rattle.module_box.specs.declared.schedules.Signal.TheVariants.{Zero}
use Rattle.module_job.specs.Signals.{IsSignalWireBelow, IsDemandWireBelow}
use Rattle.module_job.specs.declared.job.Demand.{Demand}
use Rattle.module_job.specs.declared.job.Demand.TheVariants as Demanded
use Rattle.module_job.specs.declared.job.Stop.{Stop}
use Rattle.module_box.specs.Places.{place_in}
use Rattle.lemmas.specs.Bounds.{max_side, max_steps}

-- Box and steps; the module's wires and gates by numbers of its own; what each cell of the box carries at time 0, and
-- what it is to be at the last time, row by row; what the cells of ring and halo carry at odd times; its stops; and the
-- gates that it keeps, by their places among those that it uses.
pub record JobView : Type 0 where
  pub area : Box2
  pub steps : ℕ
  pub locals : LocalNet
  pub starts : List Signal
  pub demands : List Demand
  pub edges : Signals
  pub halos : Signals
  pub stops : List Stop
  pub kept : List ℕ

-- what the cell (x, y) carries at time 0, and a cell outside the box is dead
unfoldable pub job_start : JobView → ℤ → ℤ → Signal
job_start j x y = if in_box j.area x y then unwrap_or (slice_get j.starts (place_in j.area x y)) Zero else Zero

-- what the cell (x, y) is to be at the last time
unfoldable pub job_demand : JobView → ℤ → ℤ → Demand
job_demand j x y = if in_box j.area x y then unwrap_or
    (slice_get j.demands (place_in j.area x y)) Demanded.Dead else Demanded.Dead

-- each wire that the job names is one of its own
pub record NamesOnlyOwnWires (j : JobView) : Type 0 where
  pub starts : All (IsSignalWireBelow (wires j.locals.netlist)) j.starts
  pub demands : All (IsDemandWireBelow (wires j.locals.netlist)) j.demands
  pub edge_all_times : All (λ h. IsSignalWireBelow (wires j.locals.netlist) h.signal) j.edges.all_times
  pub edge_events : All (λ e. IsSignalWireBelow (wires j.locals.netlist) e.signal) j.edges.events
  pub halo_all_times : All (λ h. IsSignalWireBelow (wires j.locals.netlist) h.signal) j.halos.all_times
  pub halo_events : All (λ e. IsSignalWireBelow (wires j.locals.netlist) e.signal) j.halos.events
  pub stops : All (λ s. s.wire < wires j.locals.netlist) j.stops

-- a stop is at a time up to the last one, and at a cell of the box
pub record IsStopWithinJob (j : JobView) (s : Stop) : Type 0 where
  pub time : s.at.time ≤ j.steps
  pub inside : IsTrue (in_box j.area s.at.cell.x s.at.cell.y)

-- the time and the cell of a stop
abbrev pub stop_moment : Stop → Moment
stop_moment s = s.at

-- A job within the limits of a certificate: its box is even, has sides of 2 to 64 and lies in a rectangle of 4096 by
-- 4096 cells. It has at most 1,048,576 steps, it names its own wires, and its stops rise by time, y and x.
pub record IsJob (j : JobView) : Type 0 where
  pub even : IsEvenBox j.area
  pub width : (2 ≤ j.area.w) × (j.area.w ≤ 64) × (j.area.x + j.area.w ≤ max_side)
  pub height : (2 ≤ j.area.h) × (j.area.h ≤ 64) × (j.area.y + j.area.h ≤ max_side)
  pub steps : j.steps ≤ max_steps
  pub own : NamesOnlyOwnWires j
  pub stops : All (IsStopWithinJob j) j.stops
  pub stops_rise : IsRising moment_cmp stop_moment j.stops
