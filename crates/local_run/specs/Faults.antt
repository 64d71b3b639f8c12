-- The faults of a job, and the least of them
use Rattle.std.specs.Prelude.{◌≡◌, ◌≢◌, ℕ, ℤ, ◌<◌, ◌%◌, ◌^◌, Option, Some, None, Contains, IsTrue}
use Rattle.std.specs.declared.cmp.Ordering.TheVariants.{Greater}
use Rattle.std.proofs.Props.{props}
use Rattle.circuit.specs.Meaning.{Valuation}
use Rattle.bbm_rule.specs.Boxes.{in_box, in_ring}
use Rattle.module_box.specs.Locals.{is_among}
use Rattle.module_box.specs.LocalValues.{IsLocalValuation, IsFirstLocalGateWithoutRow}
use Rattle.module_box.specs.Schedules.{signal_at}
use Rattle.module_job.specs.Jobs.{JobView, job_demand}
use Rattle.module_job.specs.Signals.{is_live, MeetsDemand}
use Rattle.module_job.specs.declared.job.Stop as listed
use Rattle.local_run.specs.Order.{fault_cmp, keep_fault_cmp}
use Rattle.local_run.specs.Runs.{local_run}
use Rattle.local_run.specs.declared.fault.Fault.{Fault}
use Rattle.local_run.specs.declared.fault.KeepFault.{KeepFault}
use Rattle.local_run.specs.declared.fault.Kind.{Kind}
use Rattle.local_run.specs.declared.fault.Kind.TheVariants.{Edge, Stop, End}

-- at an odd time below the steps, a cell of the ring is not as its edge signal says
pub record IsEdgeFault (j : JobView) (u : Valuation) (t : ℕ) (x y : ℤ) : Type 0 where
  pub odd : t % 2 ≡ 1
  pub early : t < j.steps
  pub ring : IsTrue (in_ring j.area x y)
  pub differs : local_run j u t x y ≢ is_live u (signal_at j.edges t x y)

-- at the time of a stop, its cell is not as its wire says
pub record IsStopFault (j : JobView) (u : Valuation) (t : ℕ) (x y : ℤ) : Type 0 where
  pub stop : listed.Stop
  pub is_listed : Contains j.stops stop
  pub time : stop.at.time ≡ t
  pub column : stop.at.cell.x ≡ x
  pub row : stop.at.cell.y ≡ y
  pub differs : local_run j u t x y ≢ u stop.wire

-- at the last time, a cell of the box does not meet its demand
pub record IsEndFault (j : JobView) (u : Valuation) (t : ℕ) (x y : ℤ) : Type 0 where
  pub last : t ≡ j.steps
  pub inside : IsTrue (in_box j.area x y)
  pub differs : ¬ MeetsDemand u (job_demand j x y) (local_run j u t x y)

-- the cell (x, y) has a fault of the kind at time t, if the wires have these values
abbrev pub IsFaultUnderValues : JobView → Valuation → ℕ → Kind → ℤ → ℤ → Type 0
IsFaultUnderValues j u t Edge x y = IsEdgeFault j u t x y
IsFaultUnderValues j u t Stop x y = IsStopFault j u t x y
IsFaultUnderValues j u t End x y = IsEndFault j u t x y

-- how many assignments there are: one for each choice of the values of the cuts
abbrev pub assignments : JobView → ℕ
assignments j = 2 ^ j.locals.netlist.given

-- a local valuation under the fault's assignment that has it
pub record HasFaultWitness (j : JobView) (f : Fault) : Type 0 where
  pub values : Valuation
  pub local : IsLocalValuation j.locals f.assignment values
  pub differs : IsFaultUnderValues j values f.time f.kind f.cell.x f.cell.y

-- a fault of the job: some local valuation under its assignment has it
pub record IsFault (j : JobView) (f : Fault) : Type 0 where
  pub in_range : f.assignment < assignments j
  pub shown : ∥ HasFaultWitness j f ∥₁

-- the job's least fault, or `None` if it has no fault
abbrev pub IsLeastFault : JobView → Option Fault → Type 0
IsLeastFault j None = (f : Fault) → ¬ IsFault j f
IsLeastFault j (Some f) = IsFault j f × ((g : Fault) → IsFault j g → fault_cmp f g ≢ Greater)

-- any two proofs of it are equal
pub IsLeastFault-prop : (j : JobView) (o : Option Fault) → IsProp (IsLeastFault j o)
IsLeastFault-prop j None = Prim.hlevel props
IsLeastFault-prop j (Some f) = Prim.hlevel props

-- ---- gates that have no row

-- Under the assignment the gate at this place among the used ones is the first that has no row, and the module keeps
-- it. The assignment is any at all: also one under which the run looks for no faults.
pub record IsKeepFault (j : JobView) (f : KeepFault) : Type 0 where
  pub in_range : f.assignment < assignments j
  pub is_kept : IsTrue (is_among j.kept f.gate)
  pub shown : ∥ IsFirstLocalGateWithoutRow j.locals f.assignment f.gate ∥₁

-- the job's least keep fault, or `None` if it has none
abbrev pub IsLeastKeepFault : JobView → Option KeepFault → Type 0
IsLeastKeepFault j None = (f : KeepFault) → ¬ IsKeepFault j f
IsLeastKeepFault j (Some f) = IsKeepFault j f × ((g : KeepFault) → IsKeepFault j g → keep_fault_cmp f g ≢ Greater)

-- any two proofs of it are equal
pub IsLeastKeepFault-prop : (j : JobView) (o : Option KeepFault) → IsProp (IsLeastKeepFault j o)
IsLeastKeepFault-prop j None = Prim.hlevel props
IsLeastKeepFault-prop j (Some f) = Prim.hlevel props
