-- The meaning of a no under a plain certificate, of one module that is the whole rectangle: `check` decides the layout.
--
-- Read before: meaning/specs/Implements.antt, OnTime.antt, FirstFaults.antt.
use Rattle.std.specs.Prelude.{◌≡◌, ◌≢◌, ℕ, ℤ, ◌<◌, ◌%◌, ◌↔◌, ◌⊎◌, List, [], ◌∷◌, Option, Some, None, slice_get, IsTrue}
use Rattle.std.specs.List.{All}
use Rattle.std.specs.declared.vec.Vec.{Vec}
use Rattle.std.specs.declared.alloc.Global.{Global}
use Rattle.circuit.specs.declared.circuit_line.GateKind.TheVariants.{Delay}
use Rattle.circuit.specs.Gates.{is_inverse}
use Rattle.circuit.specs.Bridge.{circuit_of, netlist_of}
use Rattle.circuit.specs.Meaning.{Gate, Satisfies, Valuation}
use Rattle.circuit.specs.declared.circuit_line.CircuitLine.{CircuitLine}
use Rattle.pattern.specs.Layout.{Pattern}
use Rattle.bbm_rule.specs.Boxes.{in_ring}
use Rattle.module_box.specs.Locals.{is_among}
use Rattle.certificate_lines.specs.Entries.{ModuleLines, cuts, edges, keeps, stops}
use Rattle.certificate_lines.specs.Rules.{whole}
use Rattle.certificate_lines.specs.Settings.{setting_of}
use Rattle.module_job.specs.Jobs.{JobView}
use Rattle.certificate_lines.specs.declared.certificate_line.StopLine.{StopLine}
use Rattle.certificate.specs.Arrivals.{AreOnTime, IsDelayBetweenWires, TakesStepsFromLastToFirstStop, IsDelayGapTrue}
use Rattle.certificate.specs.Arrivals.{IsMeetingTimeTrue}
use Rattle.certificate.specs.declared.times.StopGap.{StopGap}
use Rattle.certificate.specs.declared.times.StopGap.TheVariants.{Steps}
use Rattle.local_run.specs.declared.fault.Fault.{Fault}
use Rattle.local_run.specs.declared.fault.Kind.TheVariants.{Edge, Stop}
use Rattle.soundness.specs.FirstFaults.{IsModuleAssignmentOf, IsRealFault}
use Rattle.soundness.specs.HeadlineLaws.{BelongTogether, HasInputNames, IsInputName}
use Rattle.meaning.specs.Implements.{IsCorrect, IsNamed, run_under}
use Rattle.soundness.specs.OnTime.{AreStopsTrueAndOnTime, StopHolds}
use Rattle.core_book.specs.Verdicts.{Accepts, IsVerdict}
use Rattle.core_book.specs.declared.verdict.Verdict.TheVariants.{No}
use Rattle.core_book.specs.declared.verdict.ReportLine.{ReportLine}
use Rattle.core_book.specs.declared.verdict.ReportLine.TheVariants.{Local, Keep, Border, Unkept, Delay as DelayLine}
use Rattle.core_book.specs.declared.verdict.ReportLine.TheVariants.{Meet}

-- ---- plain certificates

-- The one module of a certificate is plain: its box is the whole rectangle, it cuts inputs of the circuit alone, it
-- keeps each inverse gate of the circuit, and it has no edge line.
pub record IsPlainModule (lines : List CircuitLine) (p : Pattern) (m : ModuleLines) : Type 0 where
  pub box : m.area ≡ whole p.size
  pub inputs : All (IsInputName lines) (cuts m)
  pub inverses : (number : ℕ) (gate : Gate) → slice_get (netlist_of lines).gates number ≡ Some gate →
      IsTrue (is_inverse gate.kind) → IsTrue (is_among (keeps m) number)
  pub no_edge : edges m ≡ []

-- The inputs have these values. Then the cell (x, y) of the rim is live at this odd time below the steps. The rim is
-- the outermost cells of the rectangle.
pub record IsLiveOnRim (lines : List CircuitLine) (p : Pattern) (inputs : Valuation) (time : ℕ) (x y : ℤ) : Type 0 where
  pub odd : time % 2 ≡ 1
  pub early : time < p.size.steps
  pub rim : IsTrue (in_ring (whole p.size) x y)
  pub live : IsTrue (run_under (circuit_of lines) p inputs time x y)

-- for some values of the inputs a cell of the rim is live at an odd time below the steps
pub record TouchesRim (lines : List CircuitLine) (p : Pattern) : Type 0 where
  pub inputs : Valuation
  pub time : ℕ
  pub x : ℤ
  pub y : ℤ
  pub touch : IsLiveOnRim lines p inputs time x y

-- what is accepted, plain or not, keeps off its rim
abbrev pub AcceptedKeepsOffRim : Type 0
AcceptedKeepsOffRim = (lines : List CircuitLine) (p : Pattern) (ms : List ModuleLines) (jobs : List JobView) →
    HasInputNames lines p → BelongTogether lines p ms jobs → Accepts (setting_of lines p) ms jobs → ¬ TouchesRim lines p

-- A plain certificate is accepted exactly if the layout computes the circuit and keeps off its rim, and the stops,
-- delays and meetings are right on the whole plane.
abbrev pub PlainVerdictDecidesDesign : Type 0
PlainVerdictDecidesDesign = (lines : List CircuitLine) (p : Pattern) (m : ModuleLines) (jobs : List JobView) →
    HasInputNames lines p → IsNamed lines p → BelongTogether lines p (m ∷ []) jobs → IsPlainModule lines p m →
    Accepts (setting_of lines p) (m ∷ []) jobs ↔ (IsCorrect lines p × AreStopsTrueAndOnTime (circuit_of lines) p
    (m ∷ []) × ¬ TouchesRim lines p)

-- what is wrong if the verdict is no: the layout, the stops, or the rim
abbrev pub IsWrongDesign : List CircuitLine → Pattern → ModuleLines → Type 0
IsWrongDesign lines p m = (¬ IsCorrect lines p)
    ⊎ ((¬ AreStopsTrueAndOnTime (circuit_of lines) p (m ∷ [])) ⊎ TouchesRim lines p)

-- so a verdict of no on a plain certificate says that one of these is
abbrev pub PlainNoMeansWrongOrRimLive : Type 0
PlainNoMeansWrongOrRimLive = (lines : List CircuitLine) (p : Pattern) (m : ModuleLines) (jobs : List JobView)
    (report : Vec ReportLine Global) →
    HasInputNames lines p → BelongTogether lines p (m ∷ []) jobs → IsPlainModule lines p m →
    IsVerdict (setting_of lines p)
    (m ∷ []) jobs (No report) →
    IsWrongDesign lines p m

-- ---- what each line means under a plain certificate

-- The meaning of a `local` line: there are inputs that have its assignment, and values of the wires for these, under
-- which its fault is real. If it is an edge line, its cell of the rim is live at its time. If it is a stop line, some
-- stop is wrong. If it is an end line, the layout does not compute the circuit (`IsRealFault`).
pub record LocalLineMeans (lines : List CircuitLine) (p : Pattern) (m : ModuleLines) (f : Fault) : Type 0 where
  pub inputs : Valuation
  pub under : IsModuleAssignmentOf (circuit_of lines) m inputs f.assignment
  pub values : Valuation
  pub satisfied : Satisfies (netlist_of lines) inputs values
  pub real : IsRealFault lines p m inputs values f
  pub on_rim : f.kind ≡ Edge → IsLiveOnRim lines p inputs f.time f.cell.x f.cell.y
  pub wrong_stop : f.kind ≡ Stop → ¬ All (StopHolds (circuit_of lines) p) (stops m)

-- The meaning of a `keep` line: there are inputs that have its assignment, for which the circuit has no values. So the
-- layout does not compute it.
pub record KeepFaultLineMeans (lines : List CircuitLine) (p : Pattern) (m : ModuleLines) (assignment : ℕ) : Type 0 where
  pub inputs : Valuation
  pub under : IsModuleAssignmentOf (circuit_of lines) m inputs assignment
  pub lacks : (v : Valuation) → ¬ Satisfies (netlist_of lines) inputs v
  pub incorrect : ¬ IsCorrect lines p

-- The meaning of a `delay` line by these stops. Gate `number` is a delay that must take `wanted` steps, and the line is
-- right about this gate. If the line has another number of steps, or none, the gate does not take the steps that it
-- must take, and the stops are not on time.
pub record DelayLineMeans (lines : List CircuitLine) (ss : List StopLine) (number wanted : ℕ)
    (gap : StopGap) : Type 0 where
  pub used : ℕ
  pub made : ℕ
  pub is_delay : IsDelayBetweenWires (circuit_of lines) number wanted used made
  pub takes : IsDelayGapTrue (circuit_of lines) ss gap used made
  pub wrong : gap ≢ Steps wanted → ¬ TakesStepsFromLastToFirstStop (circuit_of lines) ss wanted used made
  pub late : gap ≢ Steps wanted → ¬ AreOnTime (circuit_of lines) ss

-- The meaning of a `meet` line by these stops. The inputs of gate `number` meet at the time of the line. If it has no
-- time, they meet at no time, and the stops are not on time.
pub record MeetLineMeans (lines : List CircuitLine) (ss : List StopLine) (number : ℕ) (at : Option ℕ) : Type 0 where
  pub gate : Gate
  pub numbered : slice_get (netlist_of lines).gates number ≡ Some gate
  pub meets : IsMeetingTimeTrue (circuit_of lines) ss at gate.ins
  pub late : at ≡ None → ¬ AreOnTime (circuit_of lines) ss

-- The meaning of each line of a report. No `border` and no `unkept` line occurs. A `delay` line and a `meet` line are
-- about their own gate, by the stops of the module.
abbrev pub LineMeans : List CircuitLine → Pattern → ModuleLines → ReportLine → Type 0
LineMeans lines p m (Local i f) = LocalLineMeans lines p m f
LineMeans lines p m (Keep i f) = KeepFaultLineMeans lines p m f.assignment
LineMeans lines p m (Border i f) = ⊥
LineMeans lines p m (Unkept gate) = ⊥
LineMeans lines p m (DelayLine gate wanted gap) = DelayLineMeans lines (stops m) gate wanted gap
LineMeans lines p m (Meet gate at) = MeetLineMeans lines (stops m) gate at

-- It means so in every report on a plain certificate.
abbrev pub PlainReportLinesHaveMeaning : Type 0
PlainReportLinesHaveMeaning = (lines : List CircuitLine) (p : Pattern) (m : ModuleLines) (jobs : List JobView)
    (report : Vec ReportLine Global) → HasInputNames lines p → BelongTogether lines p (m ∷ []) jobs →
    IsPlainModule lines p m →
    IsVerdict (setting_of lines p) (m ∷ []) jobs (No report) → All (LineMeans lines p m) report.items

-- if the module has no stop and the circuit no delay, nothing is asked of times
abbrev pub UntimedIsOnTime : Type 0
UntimedIsOnTime = (lines : List CircuitLine) (p : Pattern) (m : ModuleLines) →
    stops m ≡ [] → All (λ g. (n : ℕ) → ¬ (g.kind ≡ Delay n)) (netlist_of lines).gates →
    AreStopsTrueAndOnTime (circuit_of lines) p
    (m ∷ [])
