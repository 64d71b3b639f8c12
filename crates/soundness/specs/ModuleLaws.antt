-- A module has one job, and the modules of a certificate have one verdict
use Rattle.std.specs.Prelude.{◌≡◌, List, None}
use Rattle.circuit.specs.Bridge.{AreGoodCircuitLines, circuit_of, netlist_of}
use Rattle.circuit.specs.Meaning.{AreGatesOrdered, Circuit}
use Rattle.circuit.specs.declared.circuit_line.CircuitLine.{CircuitLine}
use Rattle.pattern.specs.Layout.{Pattern}
use Rattle.pattern.specs.Lines.{size_fault}
use Rattle.module_box.specs.Locals.{AreDistinct}
use Rattle.module_job.specs.Jobs.{JobView}
use Rattle.certificate_lines.specs.Entries.{ModuleLines, known}
use Rattle.certificate_lines.specs.Modules.{AreModules, HasLocalPortWires, IsModule}
use Rattle.certificate_lines.specs.Settings.{setting_of}
use Rattle.certificate.specs.Jobs.{AreJobsOf, IsJobOf}
use Rattle.core_book.specs.Verdicts.{IsVerdict}
use Rattle.core_book.specs.declared.verdict.Verdict.{Verdict}

-- two jobs of one module are the same if the module cuts or defines no wire twice
abbrev pub ModuleHasOneJob : Type 0
ModuleHasOneJob = (c : Circuit) (p : Pattern) (m : ModuleLines) (j k : JobView) → AreDistinct (known c m) →
    IsJobOf c p m j → IsJobOf c p m k → j ≡ k

-- a module that is as the grammar asks has a job, if the gates of the circuit are ordered
abbrev pub ModuleHasSomeJob : Type 0
ModuleHasSomeJob = (lines : List CircuitLine) (p : Pattern) (m : ModuleLines) →
    AreGatesOrdered (netlist_of lines).given (netlist_of lines).gates → IsModule (setting_of lines p) m →
    HasLocalPortWires (setting_of lines p) m → (j : JobView) × IsJobOf (circuit_of lines) p m j

-- some jobs of the modules, and a verdict on them
pub record HasVerdict (lines : List CircuitLine) (p : Pattern) (ms : List ModuleLines) : Type 0 where
  pub jobs : List JobView
  pub are_jobs : AreJobsOf (circuit_of lines) p ms jobs
  pub verdict : Verdict
  pub judged : IsVerdict (setting_of lines p) ms jobs verdict

-- the modules of a certificate have a verdict, if circuit, layout and modules are as the grammars ask
abbrev pub VerdictExists : Type 0
VerdictExists = (lines : List CircuitLine) (p : Pattern) (ms : List ModuleLines) → AreGoodCircuitLines lines →
    size_fault p.size ≡ None →
    AreModules (setting_of lines p) ms → HasVerdict lines p ms
