-- The reason why a yes is right for the whole layout, step by step
use Rattle.std.specs.Prelude.{◌≡◌, ℕ, suc, ℤ, ◌<◌, ◌≤◌, List, None, [], Some, slice_get, take, IsTrue, IsFalse}
use Rattle.circuit.specs.Entries.{defined}
use Rattle.circuit.specs.Bridge.{circuit_of, input_names, netlist_of, output_names}
use Rattle.circuit.specs.Meaning.{AreGatesOrdered, IsFirstGateWithoutRow, Satisfies, Valuation, values_by_name, wire_of}
use Rattle.circuit.specs.declared.circuit_line.CircuitLine.{CircuitLine}
use Rattle.pattern.specs.Layout.{Pattern, parts_of}
use Rattle.pattern.specs.Lines.{AreGoodAfter, ArePortsNamed, size_fault}
use Rattle.pattern.specs.declared.layout_line.Port.{Port}
use Rattle.bbm_rule.specs.Boxes.{in_box}
use Rattle.module_box.specs.LocalValues.{values_by_local_number}
use Rattle.certificate_lines.specs.Entries.{ModuleLines}
use Rattle.certificate_lines.specs.Settings.{setting_of}
use Rattle.module_job.specs.Jobs.{JobView}
use Rattle.certificate.specs.Jobs.{AreJobsOf}
use Rattle.certificate_lines.specs.Modules.{AreModules}
use Rattle.certificate_lines.specs.Rules.{whole}
use Rattle.local_run.specs.Runs.{local_run}
use Rattle.local_run.specs.Faults.{IsFault}
use Rattle.local_run.specs.declared.fault.Fault.{Fault}
use Rattle.local_run.specs.declared.fault.Kind.TheVariants.{End}
use Rattle.border_match.specs.BorderFaults.{IsBorderFault}
use Rattle.border_match.specs.declared.fault.BorderFault.{BorderFault}
use Rattle.meaning.specs.Implements.{IsCorrect, IsNamed, LooksAsAsked, run_under}
use Rattle.soundness.specs.OnTime.{AreStopsTrueAndOnTime}
use Rattle.core_book.specs.Verdicts.{Accepts}

-- The lines of the circuit, the layout, the modules and the jobs are those of a bundle that was read. `Circuit::gates`,
-- `Layout::size`, `Cert::modules` and `Cert::jobs` state these facts.
pub record BelongTogether (lines : List CircuitLine) (p : Pattern) (ms : List ModuleLines)
    (jobs : List JobView) : Type 0 where
  pub ordered : AreGatesOrdered (netlist_of lines).given (netlist_of lines).gates
  pub limits : size_fault p.size ≡ None
  pub laid_out : AreGoodAfter p.size [] (parts_of p)
  pub are_modules : AreModules (setting_of lines p) ms
  pub are_jobs : AreJobsOf (circuit_of lines) p ms jobs

-- such a bundle, in which neither a job nor a border has a fault, and the rules on delays and meetings are kept
pub record IsAcceptedBundle (lines : List CircuitLine) (p : Pattern) (ms : List ModuleLines)
    (jobs : List JobView) : Type 0 where
  pub bundle : BelongTogether lines p ms jobs
  pub accepted : Accepts (setting_of lines p) ms jobs

-- no job has a fault, and no module a border fault
pub record HasNoJobOrBorderFault (lines : List CircuitLine) (p : Pattern) (ms : List ModuleLines)
    (jobs : List JobView) : Type 0 where
  pub of_jobs : (number : ℕ) (j : JobView) (f : Fault) → slice_get jobs number ≡ Some j → ¬ IsFault j f
  pub of_borders : (number : ℕ) (f : BorderFault) → ¬ IsBorderFault (setting_of lines p) ms number f

-- no job has a fault of the kind `End`
abbrev pub HasNoEndFault : List JobView → Type 0
HasNoEndFault jobs = (number : ℕ) (j : JobView) (f : Fault) → slice_get jobs number ≡ Some j → f.kind ≡ End →
    ¬ IsFault j f

-- At time t no cell outside the rectangle is live. In the box of each job the plane is the job's run by itself, if the
-- job's wires have the values that they have in the circuit.
pub record IsRunOfJobs (lines : List CircuitLine) (p : Pattern) (jobs : List JobView) (v : Valuation)
    (t : ℕ) : Type 0 where
  pub outside : (x y : ℤ) → IsFalse (in_box (whole p.size) x y) → IsFalse (run_under (circuit_of lines) p v t x y)
  pub inside : (i : ℕ) (j : JobView) → slice_get jobs i ≡ Some j → (x y : ℤ) → IsTrue (in_box j.area x y) →
      run_under (circuit_of lines) p v t x y ≡ local_run j (values_by_local_number j.locals v) t x y

-- it is so at the start
abbrev pub PlaneStartsAsJobs : Type 0
PlaneStartsAsJobs = (lines : List CircuitLine) (p : Pattern) (ms : List ModuleLines) (jobs : List JobView)
    (v : Valuation) →
    BelongTogether lines p ms jobs → IsRunOfJobs lines p jobs v 0

-- if it is so before a step, and neither a job nor a border has a fault, it is so after the step
abbrev pub PlaneStepsAsJobs : Type 0
PlaneStepsAsJobs = (lines : List CircuitLine) (p : Pattern) (ms : List ModuleLines) (jobs : List JobView)
    (inputs v : Valuation)
    (t : ℕ) →
    BelongTogether lines p ms jobs → HasNoJobOrBorderFault lines p ms jobs → Satisfies (netlist_of lines) inputs v →
    t < p.size.steps →
    IsRunOfJobs lines p jobs v t → IsRunOfJobs lines p jobs v (suc t)

-- if it is so after the last step, and no job has a fault, the plane looks as the layout asks
abbrev pub PlaneEndsAsAsked : Type 0
PlaneEndsAsAsked = (lines : List CircuitLine) (p : Pattern) (ms : List ModuleLines) (jobs : List JobView)
    (inputs v : Valuation) →
    BelongTogether lines p ms jobs → HasNoEndFault jobs → Satisfies (netlist_of lines) inputs v →
    IsRunOfJobs lines p jobs v p.size.steps →
    LooksAsAsked p (values_by_name (circuit_of lines) v) (run_under (circuit_of lines) p v p.size.steps)

-- ---- gates that have no row

-- no gate of what is accepted is the first that has no row: some module keeps it, and would have a keep fault
abbrev pub AcceptedHasNoUndefinedGate : Type 0
AcceptedHasNoUndefinedGate = (lines : List CircuitLine) (p : Pattern) (ms : List ModuleLines) (jobs : List JobView)
    (inputs : Valuation)
    (k : ℕ) →
    IsAcceptedBundle lines p ms jobs → ¬ IsFirstGateWithoutRow (netlist_of lines) inputs k

-- so the circuit has a valuation, whatever its inputs are
abbrev pub AcceptedHasValuation : Type 0
AcceptedHasValuation = (lines : List CircuitLine) (p : Pattern) (ms : List ModuleLines) (jobs : List JobView)
    (inputs : Valuation) →
    IsAcceptedBundle lines p ms jobs → (v : Valuation) × Satisfies (netlist_of lines) inputs v

-- ---- the run by the inputs alone

-- the name is that of an input
pub record IsInputName (lines : List CircuitLine) (name : List ℕ) : Type 0 where
  pub wire : ℕ
  pub named : wire_of (circuit_of lines) name ≡ Some wire
  pub is_given : wire < (netlist_of lines).given

-- each input cell has the name of an input
abbrev pub HasInputNames : List CircuitLine → Pattern → Type 0
HasInputNames lines p = (i : ℕ) (q : Port) → slice_get p.ins i ≡ Some q → IsInputName lines q.name

-- It is so in a layout that was read with the names of the circuit's ports. `Circuit::inputs`, `port_names` and
-- `read_layout` say what is asked here.
abbrev pub ReadLayoutHasInputNames : Type 0
ReadLayoutHasInputNames = (lines : List CircuitLine) (p : Pattern) →
    take (netlist_of lines).given (defined lines) ≡ input_names lines →
    ArePortsNamed (Some (record { ins = input_names lines; outs = output_names lines })) (parts_of p) →
    HasInputNames lines p

-- All its ports are named as the inputs and outputs then.
abbrev pub ReadLayoutHasPortNames : Type 0
ReadLayoutHasPortNames = (lines : List CircuitLine) (p : Pattern) →
    ArePortsNamed (Some (record { ins = input_names lines; outs = output_names lines })) (parts_of p) → IsNamed lines p

-- If input cells have the names of inputs, the run depends on the values of the inputs alone: it is that in which just
-- the input cells begin whose input is true.
abbrev pub InputsDecideTheRun : Type 0
InputsDecideTheRun = (lines : List CircuitLine) (p : Pattern) (inputs v : Valuation) (t : ℕ) (x y : ℤ) →
    HasInputNames lines p →
    Satisfies (netlist_of lines) inputs v →
    run_under (circuit_of lines) p v t x y ≡ run_under (circuit_of lines) p inputs t x y

-- ---- the whole

-- so what is accepted is correct, if the ports have the names of inputs and outputs
abbrev pub AcceptedIsCorrect : Type 0
AcceptedIsCorrect = (lines : List CircuitLine) (p : Pattern) (ms : List ModuleLines) (jobs : List JobView) →
    HasInputNames lines p → IsNamed lines p → IsAcceptedBundle lines p ms jobs → IsCorrect lines p

-- and its stops hold on the whole plane
abbrev pub AcceptedIsOnTime : Type 0
AcceptedIsOnTime = (lines : List CircuitLine) (p : Pattern) (ms : List ModuleLines) (jobs : List JobView) →
    HasInputNames lines p → IsAcceptedBundle lines p ms jobs → AreStopsTrueAndOnTime (circuit_of lines) p ms

-- ---- some bundle with an odd time is accepted, so the laws are not about nothing

-- some bundle with an odd time is accepted
pub record SomeBundleIsAccepted : Type 0 where
  pub lines : List CircuitLine
  pub layout : Pattern
  pub modules : List ModuleLines
  pub jobs : List JobView
  pub long : 2 ≤ layout.size.steps
  pub accepted : IsAcceptedBundle lines layout modules jobs

-- ---- and some layout is not correct, though its ports are named as the circuit's

-- some layout whose ports are named as the circuit's is not correct
pub record SomeLayoutIsWrong : Type 0 where
  pub lines : List CircuitLine
  pub layout : Pattern
  pub named : IsNamed lines layout
  pub wrong : ¬ IsCorrect lines layout
