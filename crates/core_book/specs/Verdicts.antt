-- The verdict on the modules of a certificate
use Rattle.std.specs.Prelude.{◌≡◌, ℕ, ◌+◌, ◌<◌, ◌++◌, List, [], ◌∷◌, length, map, Option, Some, slice_get, IsTrue}
use Rattle.std.specs.Option.{option_map, option_to_list}
use Rattle.circuit.specs.Gates.{is_inverse}
use Rattle.circuit.specs.Meaning.{Gate}
use Rattle.module_box.specs.Locals.{circuit_gate}
use Rattle.certificate_lines.specs.Entries.{Setting, ModuleLines}
use Rattle.module_job.specs.Jobs.{JobView}
use Rattle.certificate.specs.Keeps.{is_kept, unkept}
use Rattle.certificate.specs.Times.{are_all_timings_obeyed, delay_and_meet_lines}
use Rattle.certificate.specs.declared.times.TimeLine.{TimeLine}
use Rattle.certificate.specs.declared.times.TimeLine.TheVariants as times
use Rattle.local_run.specs.Faults.{IsFault, IsKeepFault, IsLeastFault, IsLeastKeepFault}
use Rattle.local_run.specs.Shown.{job_of}
use Rattle.local_run.specs.declared.fault.Fault.{Fault}
use Rattle.local_run.specs.declared.fault.KeepFault.{KeepFault}
use Rattle.local_run.specs.declared.finding.Finding.{Finding}
use Rattle.border_match.specs.BorderFaults.{IsBorderFault, AreBorderFaultsOf}
use Rattle.border_match.specs.declared.fault.BorderFault.{BorderFault}
use Rattle.core_book.specs.Book.{BookView, held_finding}
use Rattle.core_book.specs.declared.verdict.LeastFaults.{LeastFaults}
use Rattle.core_book.specs.declared.verdict.ReportLine.{ReportLine}
use Rattle.core_book.specs.declared.verdict.ReportLine.TheVariants.{Local, Keep, Border, Unkept, Delay, Meet}
use Rattle.core_book.specs.declared.verdict.Verdict.{Verdict}
use Rattle.core_book.specs.declared.verdict.Verdict.TheVariants.{Yes, No}

-- ---- what is accepted

-- No job has a fault, and no module has a border fault. No job has a keep fault, and some module keeps each inverse
-- gate. The rules on delays and meetings are kept.
pub record Accepts (g : Setting) (ms : List ModuleLines) (jobs : List JobView) : Type 0 where
  pub no_fault : (number : ℕ) (j : JobView) (f : Fault) → slice_get jobs number ≡ Some j → ¬ IsFault j f
  pub no_border_fault : (number : ℕ) (f : BorderFault) → ¬ IsBorderFault g ms number f
  pub no_keep_fault : (number : ℕ) (j : JobView) (f : KeepFault) → slice_get jobs number ≡ Some j → ¬ IsKeepFault j f
  pub kept : (number : ℕ) (gate : Gate) → slice_get g.circuit.netlist.gates number ≡ Some gate →
      IsTrue (is_inverse gate.kind) → IsTrue (is_kept ms number)
  pub on_time : IsTrue (are_all_timings_obeyed (delay_and_meet_lines g.circuit ms))

-- ---- the lines of a report

-- a keep fault by the number that its gate has in the circuit
abbrev pub renumber_keep : JobView → KeepFault → KeepFault
renumber_keep j f = record f { gate = circuit_gate j.locals f.gate }

-- what is told of a job: its least fault, if there is one, and its least keep fault, by the number of the gate in the
-- circuit
pub record AreLeastFaultsOfJob (j : JobView) (r : LeastFaults) : Type 0 where
  pub fault : IsLeastFault j r.fault
  pub keep : Option KeepFault
  pub least_keep : IsLeastKeepFault j keep
  pub same : r.keep ≡ option_map (renumber_keep j) keep

-- it is told of each of the jobs
pub record AreLeastFaults (jobs : List JobView) (fs : List LeastFaults) : Type 0 where
  pub count : length fs ≡ length jobs
  pub each : (number : ℕ) (j : JobView) (f : LeastFaults) → slice_get jobs number ≡ Some j →
      slice_get fs number ≡ Some f →
      AreLeastFaultsOfJob j f

-- the line for the least fault of a module's job, if it has one
abbrev pub local_line : ℕ → Option Fault → Option ReportLine
local_line number f = option_map (λ f. Local number f) f

-- the line for the least keep fault of a module's job, if it has one
abbrev pub keep_line : ℕ → Option KeepFault → Option ReportLine
keep_line number f = option_map (λ f. Keep number f) f

-- the line for the least border fault of a module, if it has one
abbrev pub border_line : ℕ → Option BorderFault → Option ReportLine
border_line number f = option_map (λ f. Border number f) f

-- the lines of each module, from this number on: its least fault, its least keep fault, and then its least border fault
unfoldable pub report_lines_from : ℕ → List LeastFaults → List (Option BorderFault) → List ReportLine
report_lines_from number [] borders = []
report_lines_from number (f ∷ faults) [] = []
report_lines_from number (f ∷ faults) (b ∷ borders) =
    option_to_list (local_line number f.fault) ++ option_to_list (keep_line number f.keep)
    ++ option_to_list (border_line number b) ++ report_lines_from (number + 1) faults borders

-- then the inverse gates that no module keeps
abbrev pub unkept_lines : Setting → List ModuleLines → List ReportLine
unkept_lines g ms = map (λ n. Unkept n) (unkept g ms)

-- what stops say of a gate, as a line
abbrev pub timing_report_line : TimeLine → ReportLine
timing_report_line (times.Delay gate wanted gap) = Delay gate wanted gap
timing_report_line (times.Meet gate at) = Meet gate at

-- all lines on modules of these jobs
pub record AreReportLines (g : Setting) (ms : List ModuleLines) (jobs : List JobView)
    (lines : List ReportLine) : Type 0 where
  pub faults : List LeastFaults
  pub are_least : AreLeastFaults jobs faults
  pub borders : List (Option BorderFault)
  pub are_border_faults : AreBorderFaultsOf g ms borders
  -- then the inverse gates that no module keeps, and then a line for each delay and each meeting
  pub lines_are : lines ≡ report_lines_from 0 faults borders ++ unkept_lines g ms
      ++ map timing_report_line (delay_and_meet_lines g.circuit ms)

-- `Yes` if the modules are accepted, and else `No` with all lines
unfoldable pub IsVerdict : Setting → List ModuleLines → List JobView → Verdict → Type 0
IsVerdict g ms jobs Yes = Accepts g ms jobs
IsVerdict g ms jobs (No lines) = (¬ Accepts g ms jobs) × AreReportLines g ms jobs lines.items

-- ---- which findings a verdict needs

-- the book holds a finding for this number, and it is of this job
pub record IsFindingHeld (b : BookView) (number : ℕ) (j : JobView) : Type 0 where
  pub finding : Finding
  pub held : held_finding b number ≡ Some finding
  pub whole : job_of finding ≡ j

-- it does for each of the jobs below this number
abbrev pub AreFindingsHeldBelow : BookView → List JobView → ℕ → Type 0
AreFindingsHeldBelow b jobs count = (number : ℕ) (j : JobView) → number < count → slice_get jobs number ≡ Some j →
    IsFindingHeld b number j

-- the first of the jobs for which it does not
pub record IsFirstMissingFinding (b : BookView) (jobs : List JobView) (number : ℕ) : Type 0 where
  pub job : JobView
  pub numbered : slice_get jobs number ≡ Some job
  pub missing : ¬ IsFindingHeld b number job
  pub before : AreFindingsHeldBelow b jobs number
