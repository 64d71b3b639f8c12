-- Texts that are reported with a yes, and one with a no, so the laws are not about nothing.
--
-- `timed_modules_text` has four modules, `there_and_back_text` an inverse gate. The two plain texts are of three steps
-- and of one gate, `interact`, in which two balls meet after the first step. Read before: Plain.antt, ReportLines.antt
-- and SmallDesigns.antt.
use Rattle.std.specs.Prelude.{◌≤◌, ℕ, List, [], ◌∷◌, Some, codes}
use Rattle.circuit.specs.Bridge.{circuit_of}
use Rattle.circuit.specs.declared.circuit_line.CircuitLine.{CircuitLine}
use Rattle.bbm_rule.specs.CellLists.{cell}
use Rattle.pattern.specs.Layout.{Pattern}
use Rattle.local_run.specs.declared.fault.Fault.{Fault}
use Rattle.local_run.specs.declared.fault.Kind.TheVariants.{End}
use Rattle.soundness.specs.OnTime.{StopHolds}
use Rattle.soundness.specs.PlainCertificates.{LocalLineMeans}
use Rattle.core_book.specs.declared.verdict.ReportLine.TheVariants.{Local, Meet}
use Rattle.answers.specs.CheckText.{IsReportOf}
use Rattle.answers.specs.declared.outcome.Outcome.{Outcome}
use Rattle.answers.specs.declared.outcome.Outcome.TheVariants.{Yes, No}
use Rattle.headline.specs.Plain.{SaysPlainCertificate}
use Rattle.headline.specs.PlainNo.{plain_no_text}
use Rattle.headline.specs.PlainYes.{plain_yes_text}
use Rattle.headline.specs.ReportLines.{SaysNoWith}
use Rattle.headline.specs.SmallDesigns.{IsDesign, IsSmallDesign, design_text}
use Rattle.headline.specs.ThereAndBack.{there_and_back_text}
use Rattle.headline.specs.TimedModules.{timed_modules_text}

-- this text is reported with the outcome yes: four modules with stops and a delay
abbrev pub TimedModulesTextIsAccepted : Type 0
TimedModulesTextIsAccepted = (output : List ℕ) × IsReportOf timed_modules_text output Yes

-- and this one, which is plain and has an inverse gate
abbrev pub ThereAndBackTextIsAccepted : Type 0
ThereAndBackTextIsAccepted = (output : List ℕ) × IsReportOf there_and_back_text output Yes

-- `plain_yes_text` is plain, has at least two steps, and is reported with the outcome yes. After the first step,
-- whatever the inputs, the ball of p is at (3, 3) if p has one, and that of q at (4, 4) if q has one. Both cells are of
-- one block of the next step, so the balls meet there if both are on.
pub record PlainYesTextIsAccepted : Type 0 where
  pub plain : SaysPlainCertificate plain_yes_text
  pub steps : 2 ≤ plain.layout.size.steps
  pub first_ball : StopHolds (circuit_of plain.circuit) plain.layout
      (record { time = 1; wire = codes "p"; cell = cell 3 3 })
  pub second_ball : StopHolds (circuit_of plain.circuit) plain.layout
      (record { time = 1; wire = codes "q"; cell = cell 4 4 })
  pub output : List ℕ
  pub reported : IsReportOf plain_yes_text output Yes

-- The fault of `plain_no_text`: at the end, of the cell (2, 2), where cut 0 is on and cut 1 is off. So p has a ball and
-- q has none.
abbrev pub swapped_outputs_fault : Fault
swapped_outputs_fault = record { time = 3; kind = End; cell = cell 2 2; assignment = 1 }

-- `plain_no_text` is plain, has at least two steps, and is reported with the outcome no. Its report has a `local` line
-- on this fault, and the line that says that p and q meet at time 1. The `local` line means what `LocalLineMeans` says:
-- the plane has this fault, and so the layout does not compute the circuit.
pub record PlainNoTextIsRefuted : Type 0 where
  pub plain : SaysPlainCertificate plain_no_text
  pub steps : 2 ≤ plain.layout.size.steps
  pub output : List ℕ
  pub reported : IsReportOf plain_no_text output No
  pub says : SaysNoWith output (Local 0 swapped_outputs_fault ∷ Meet 0 (Some 1) ∷ [])
  pub shows : LocalLineMeans plain.circuit plain.layout plain.one swapped_outputs_fault

-- A small design of at least two steps, whose plain text is reported with this outcome.
pub record HasSmallDesignWithOutcome (outcome : Outcome) : Type 0 where
  pub circuit : List CircuitLine
  pub layout : Pattern
  pub design : IsDesign circuit layout
  pub small : IsSmallDesign circuit layout
  pub steps : 2 ≤ layout.size.steps
  pub output : List ℕ
  pub reported : IsReportOf (design_text circuit layout) output outcome

-- there is one with the outcome yes
abbrev pub SmallDesignIsAccepted : Type 0
SmallDesignIsAccepted = HasSmallDesignWithOutcome Yes

-- and one with the outcome no
abbrev pub SmallDesignIsRefuted : Type 0
SmallDesignIsRefuted = HasSmallDesignWithOutcome No
