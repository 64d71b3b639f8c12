-- The meaning of the first fault: the whole run has it too. The jobs run as the plane does while no border has a fault.
--
-- Read before: meaning/specs/Implements.antt; certificate_lines/specs/Entries.antt up to `stop_in` (the lines of a
-- module).
use Rattle.std.specs.Prelude.{◌≡◌, ℕ, suc, ℤ, ◌<◌, ◌≤◌, List, Some, Contains, slice_get}
use Rattle.std.specs.declared.vec.Vec.{Vec}
use Rattle.std.specs.declared.alloc.Global.{Global}
use Rattle.bbm_rule.specs.Bits.{bit}
use Rattle.circuit.specs.Bridge.{circuit_of, netlist_of}
use Rattle.circuit.specs.Meaning.{Circuit, Satisfies, Valuation, values_by_name}
use Rattle.circuit.specs.declared.circuit_line.CircuitLine.{CircuitLine}
use Rattle.pattern.specs.Layout.{Pattern}
use Rattle.module_box.specs.LocalValues.{values_by_local_number}
use Rattle.certificate_lines.specs.Entries.{ModuleLines, cuts, stops}
use Rattle.certificate_lines.specs.Settings.{setting_of}
use Rattle.certificate_lines.specs.declared.certificate_line.StopLine.{StopLine}
use Rattle.module_job.specs.Jobs.{JobView}
use Rattle.module_job.specs.Signals.{is_live, MeetsDemand}
use Rattle.certificate.specs.Jobs.{end_demand}
use Rattle.local_run.specs.Faults.{IsFault, assignments}
use Rattle.local_run.specs.declared.fault.Fault.{Fault}
use Rattle.local_run.specs.declared.fault.Kind.{Kind}
use Rattle.local_run.specs.declared.fault.Kind.TheVariants.{Edge, Stop, End}
use Rattle.border_match.specs.BorderFaults.{IsBorderFault, edge_signal}
use Rattle.border_match.specs.declared.fault.BorderFault.{BorderFault}
use Rattle.soundness.specs.HeadlineLaws.{BelongTogether, HasInputNames, IsRunOfJobs}
use Rattle.meaning.specs.Implements.{IsCorrect, LooksAsAsked, run_under}
use Rattle.core_book.specs.Verdicts.{IsVerdict}
use Rattle.core_book.specs.declared.verdict.Verdict.TheVariants.{No}
use Rattle.core_book.specs.declared.verdict.ReportLine.{ReportLine}
use Rattle.core_book.specs.declared.verdict.ReportLine.TheVariants.{Local, Border}

-- ---- steps up to a time

-- the assignment gives each cut of the job the value that its wire has in v
pub record IsAssignmentOf (j : JobView) (v : Valuation) (a : ℕ) : Type 0 where
  pub in_range : a < assignments j
  pub bits : (k : ℕ) → k < j.locals.netlist.given → bit a k ≡ values_by_local_number j.locals v k

-- At time t no job has an edge fault under the assignment that v gives its cuts, and no module has a border fault. Such
-- faults are at odd times alone.
pub record HasGoodBorders (lines : List CircuitLine) (p : Pattern) (ms : List ModuleLines) (jobs : List JobView)
    (v : Valuation) (t : ℕ) : Type 0 where
  pub of_jobs : (number : ℕ) (j : JobView) (f : Fault) → slice_get jobs number ≡ Some j → f.kind ≡ Edge → f.time ≡ t →
      IsAssignmentOf j v f.assignment → ¬ IsFault j f
  pub of_modules : (number : ℕ) (f : BorderFault) → f.time ≡ t → ¬ IsBorderFault (setting_of lines p) ms number f

-- If the plane is the jobs' runs before a step, and the borders are good then, it is so after the step.
abbrev pub GoodBordersKeepRunOfJobs : Type 0
GoodBordersKeepRunOfJobs = (lines : List CircuitLine) (p : Pattern) (ms : List ModuleLines) (jobs : List JobView)
    (inputs v : Valuation) (t : ℕ) →
    BelongTogether lines p ms jobs → Satisfies (netlist_of lines) inputs v → t < p.size.steps →
    HasGoodBorders lines p ms jobs v t →
    IsRunOfJobs lines p jobs v t → IsRunOfJobs lines p jobs v (suc t)

-- ---- the first fault

-- On the whole plane, in the run that begins with the values v, the cell (x, y) is at time t as module m certifies: as
-- its edge line, or dead if it has none; as each stop line for that cell and time; as the layout asks at the end.
abbrev pub IsCellAsCertified : Circuit → Pattern → ModuleLines → Valuation → ℕ → Kind → ℤ → ℤ → Type 0
IsCellAsCertified c p m v t Edge x y = run_under c p v t x y ≡ is_live v (edge_signal c m t x y)
IsCellAsCertified c p m v t Stop x y =
    (s : StopLine) → Contains (stops m) s → s.time ≡ t → s.cell.x ≡ x → s.cell.y ≡ y →
    run_under c p v t x y ≡ values_by_name c v s.wire
IsCellAsCertified c p m v t End x y = MeetsDemand v (end_demand c p x y) (run_under c p v t x y)

-- A fault of module i under the assignment that v gives its cuts, if the borders are good at all times before it
pub record IsFirstFault (lines : List CircuitLine) (p : Pattern) (ms : List ModuleLines) (jobs : List JobView)
    (inputs v : Valuation) (i : ℕ) (m : ModuleLines) (f : Fault) : Type 0 where
  pub bundle : BelongTogether lines p ms jobs
  pub lines_are : slice_get ms i ≡ Some m
  pub job : JobView
  pub numbered : slice_get jobs i ≡ Some job
  pub fault : IsFault job f
  pub satisfied : Satisfies (netlist_of lines) inputs v
  pub under : IsAssignmentOf job v f.assignment
  pub before : (t : ℕ) → t < f.time → HasGoodBorders lines p ms jobs v t

-- The whole run has the first fault too: there the cell is not as certified.
abbrev pub FirstFaultIsReal : Type 0
FirstFaultIsReal = (lines : List CircuitLine) (p : Pattern) (ms : List ModuleLines) (jobs : List JobView)
    (inputs v : Valuation) (i : ℕ) (m : ModuleLines) (f : Fault) →
    IsFirstFault lines p ms jobs inputs v i m f → ¬ IsCellAsCertified (circuit_of lines) p m v f.time f.kind f.cell.x
    f.cell.y

-- If it is a fault at the end, the layout does not compute the circuit.
abbrev pub EndFaultMeansIncorrect : Type 0
EndFaultMeansIncorrect = (lines : List CircuitLine) (p : Pattern) (ms : List ModuleLines) (jobs : List JobView)
    (inputs v : Valuation) (i : ℕ) (m : ModuleLines) (f : Fault) →
    HasInputNames lines p → IsFirstFault lines p ms jobs inputs v i m f → f.kind ≡ End → ¬ IsCorrect lines p

-- The report has a line on this fault of module i, and none on an earlier fault of a job or a border.
pub record IsEarliestLine (report : List ReportLine) (i : ℕ) (f : Fault) : Type 0 where
  pub listed : Contains report (Local i f)
  pub of_jobs : (n : ℕ) (g : Fault) → Contains report (Local n g) → f.time ≤ g.time
  pub of_borders : (n : ℕ) (g : BorderFault) → Contains report (Border n g) → f.time ≤ g.time

-- The earliest line of a report is on the first fault under each valuation that has its assignment.
abbrev pub EarliestLineIsFirstFault : Type 0
EarliestLineIsFirstFault = (lines : List CircuitLine) (p : Pattern) (ms : List ModuleLines) (jobs : List JobView)
    (report : Vec ReportLine Global) (inputs v : Valuation) (i : ℕ) (m : ModuleLines) (j : JobView) (f : Fault) →
    BelongTogether lines p ms jobs → IsVerdict (setting_of lines p) ms jobs (No report) →
    IsEarliestLine report.items i f →
    slice_get ms i ≡ Some m → slice_get jobs i ≡ Some j → Satisfies (netlist_of lines) inputs v →
    IsAssignmentOf j v f.assignment →
    IsFirstFault lines p ms jobs inputs v i m f

-- ---- what a line says of the whole plane

-- The values v of the circuit's wires give module m the assignment a: cut k has the value of bit k.
abbrev pub IsModuleAssignmentOf : Circuit → ModuleLines → Valuation → ℕ → Type 0
IsModuleAssignmentOf c m v a =
    (k : ℕ) (name : List ℕ) → slice_get (cuts m) k ≡ Some name → values_by_name c v name ≡ bit a k

-- The fault of module m is one of the whole plane, if the inputs have these values and the wires the values v: there
-- the cell is not as certified. If it is a fault at the end, the plane does not look as asked after the last step, so
-- the layout does not compute the circuit.
pub record IsRealFault (lines : List CircuitLine) (p : Pattern) (m : ModuleLines) (inputs v : Valuation)
    (f : Fault) : Type 0 where
  pub differs : ¬ IsCellAsCertified (circuit_of lines) p m v f.time f.kind f.cell.x f.cell.y
  pub not_asked : f.kind ≡ End →
      ¬ LooksAsAsked p (values_by_name (circuit_of lines) v) (run_under (circuit_of lines) p inputs p.size.steps)
  pub incorrect : f.kind ≡ End → ¬ IsCorrect lines p

-- The earliest line of a report is real, under each valuation that has its assignment.
abbrev pub EarliestLineIsReal : Type 0
EarliestLineIsReal = (lines : List CircuitLine) (p : Pattern) (ms : List ModuleLines) (jobs : List JobView)
    (report : Vec ReportLine Global) (inputs v : Valuation) (i : ℕ) (m : ModuleLines) (f : Fault) →
    HasInputNames lines p → BelongTogether lines p ms jobs → IsVerdict (setting_of lines p) ms jobs (No report) →
    IsEarliestLine report.items i f → slice_get ms i ≡ Some m → Satisfies (netlist_of lines) inputs v →
    IsModuleAssignmentOf (circuit_of lines) m v f.assignment → IsRealFault lines p m inputs v f
