-- The statements of this crate's laws
use Rattle.std.specs.Prelude.{◌≡◌, ℕ, ℤ, ◌+◌, ◌<◌, ◌≤◌, ◌%◌, ◌↔◌, Option, None, IsTrue}
use Rattle.std.specs.List.{All}
use Rattle.circuit.specs.Meaning.{Valuation, AreGatesOrdered}
use Rattle.module_box.specs.LocalValues.{IsLocalValuation, IsFirstLocalGateWithoutRow}
use Rattle.module_box.specs.Laws.{IsDeadOutsideBox}
use Rattle.bbm_rule.specs.Boxes.{in_halo}
use Rattle.module_box.specs.Schedules.{Signals, signal_at}
use Rattle.module_job.specs.Jobs.{JobView, IsJob}
use Rattle.local_run.specs.Faults.{IsEdgeFault, IsFault, IsFaultUnderValues, IsKeepFault, IsLeastFault}
use Rattle.local_run.specs.Faults.{IsLeastKeepFault, assignments}
use Rattle.local_run.specs.Leaps.{IsOddOfTimePair, HasSameSignalsAtOddTimes, IsRunUnchangedUntil}
use Rattle.local_run.specs.Runs.{local_run}
use Rattle.local_run.specs.Shown.{job_of, fault_of, keep_fault_of}
use Rattle.local_run.specs.declared.fault.Fault.{Fault}
use Rattle.local_run.specs.declared.fault.KeepFault.{KeepFault}
use Rattle.local_run.specs.declared.finding.Finding.{Finding}

-- two findings of one job have one fault
abbrev pub FindingsAgreeOnFaults : Type 0
FindingsAgreeOnFaults = (f g : Finding) → job_of f ≡ job_of g → fault_of f ≡ fault_of g

-- a finding without a fault says that its job has none
abbrev pub NoneMeansNoFault : Type 0
NoneMeansNoFault = (f : Finding) (x : Fault) → fault_of f ≡ None → ¬ IsFault (job_of f) x

-- and one keep fault
abbrev pub FindingsAgreeOnKeepFaults : Type 0
FindingsAgreeOnKeepFaults = (f g : Finding) → job_of f ≡ job_of g → keep_fault_of f ≡ keep_fault_of g

-- a finding without a keep fault says that its job has none
abbrev pub NoneMeansNoKeepFault : Type 0
NoneMeansNoKeepFault = (f : Finding) (x : KeepFault) → keep_fault_of f ≡ None → ¬ IsKeepFault (job_of f) x

-- a job has one least keep fault, or none
abbrev pub LeastKeepFaultIsUnique : Type 0
LeastKeepFaultIsUnique = (j : JobView) (f g : Option KeepFault) → IsLeastKeepFault j f → IsLeastKeepFault j g → f ≡ g

-- if some used gate has no row under an assignment, the job has no fault under it
abbrev pub NoFaultIfGateUndefined : Type 0
NoFaultIfGateUndefined = (j : JobView) (f : Fault) (k : ℕ) →
    AreGatesOrdered j.locals.netlist.given j.locals.netlist.gates →
    IsFirstLocalGateWithoutRow j.locals f.assignment k → ¬ IsFault j f

-- a job has one least fault, or none
abbrev pub LeastFaultIsUnique : Type 0
LeastFaultIsUnique = (j : JobView) (f g : Option Fault) → IsLeastFault j f → IsLeastFault j g → f ≡ g

-- If no gate uses a wire before it is defined, any one local valuation under an assignment decides whether the job has
-- a fault under it.
abbrev pub OneValuationDecidesFault : Type 0
OneValuationDecidesFault = (j : JobView) (f : Fault) (u : Valuation) → IsJob j →
    AreGatesOrdered j.locals.netlist.given j.locals.netlist.gates →
    f.assignment < assignments j → IsLocalValuation j.locals f.assignment u →
    IsFault j f ↔ IsFaultUnderValues j u f.time f.kind f.cell.x f.cell.y

-- at each odd time below the steps, these signals and the job's halos agree at each cell of the halo
abbrev pub HasSameHaloSignals : JobView → Signals → Type 0
HasSameHaloSignals j halos = (t : ℕ) (x y : ℤ) → t % 2 ≡ 1 → t < j.steps → IsTrue (in_halo j.area x y) →
    signal_at j.halos t x y ≡ signal_at halos t x y

-- the job keeps its faults if its halos are replaced by these, if its stops are at times up to the last one
abbrev pub SameHalosMeanSameFaults : Type 0
SameHalosMeanSameFaults = (j : JobView) (halos : Signals) (f : Fault) → All (λ s. s.at.time ≤ j.steps) j.stops →
    HasSameHaloSignals j halos → IsFault j f → IsFault (record j { halos = halos }) f

-- no cell outside the box is ever live
abbrev pub LocalRunStaysInBox : Type 0
LocalRunStaysInBox = (j : JobView) (u : Valuation) (t : ℕ) → IsJob j → IsDeadOutsideBox j.area (local_run j u t)

-- A run that does not change in two steps does not change until time n, if the signals of the halo do not either
abbrev pub QuietRunStaysUnchanged : Type 0
QuietRunStaysUnchanged = (j : JobView) (u : Valuation) (t o n : ℕ) → IsOddOfTimePair t o →
    IsRunUnchangedUntil j u t (t + 2) →
    HasSameSignalsAtOddTimes j.halos o n → IsRunUnchangedUntil j u t n

-- If the signals of the ring do not change either, an edge fault before time n was there at the odd one of the two
-- times.
abbrev pub QuietRunAddsNoEdgeFault : Type 0
QuietRunAddsNoEdgeFault = (j : JobView) (u : Valuation) (t o n k : ℕ) (x y : ℤ) → IsOddOfTimePair t o →
    IsRunUnchangedUntil j u t (t + 2) →
    HasSameSignalsAtOddTimes j.halos o n → HasSameSignalsAtOddTimes j.edges o n →
    t ≤ k → k < n → IsEdgeFault j u k x y → IsEdgeFault j u o x y
