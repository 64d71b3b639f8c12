-- The law that modules that are accepted with their halo lines are accepted without them
use Rattle.std.specs.Prelude.{◌≡◌, false, List, map}
use Rattle.circuit.specs.Bridge.{circuit_of}
use Rattle.circuit.specs.declared.circuit_line.CircuitLine.{CircuitLine}
use Rattle.pattern.specs.Layout.{Pattern}
use Rattle.certificate_lines.specs.Entries.{ModuleLines}
use Rattle.certificate.specs.Grammars.{CertView, migrated}
use Rattle.certificate_lines.specs.Settings.{setting_of}
use Rattle.module_job.specs.Jobs.{JobView}
use Rattle.certificate.specs.Jobs.{AreJobsOf}
use Rattle.certificate.specs.Laws.{IsSectionOf}
use Rattle.section_text.specs.declared.limits.Limits.{Limits}
use Rattle.certificate_lines.specs.Modules.{AreModules}
use Rattle.certificate_lines.specs.Versions.{has_nonlocal_edge_wire_beside, with_halo_lines}
use Rattle.core_book.specs.Concluding.{AreJobsOfCertificate, modules, setting}
use Rattle.core_book.specs.Verdicts.{Accepts}

-- The modules and their jobs are accepted. Then no edge line names a wire that a module beside it lacks. With the edge
-- lines beside them in place of their own halo lines the modules are accepted too.
pub record IsAcceptedWithoutHalos (lines : List CircuitLine) (p : Pattern) (ms : List ModuleLines) : Type 0 where
  pub complete : has_nonlocal_edge_wire_beside (setting_of lines p) ms ≡ false
  pub accepted : (jobs : List JobView) →
      AreJobsOf (circuit_of lines) p (map (with_halo_lines (setting_of lines p) ms) ms) jobs →
      Accepts (setting_of lines p) (map (with_halo_lines (setting_of lines p) ms) ms) jobs

-- Modules that are accepted with their halo lines are accepted with the edge lines beside them in place of these.
abbrev pub AcceptedStaysWithoutHalos : Type 0
AcceptedStaysWithoutHalos = (lines : List CircuitLine) (p : Pattern) (ms : List ModuleLines) (jobs : List JobView) →
    AreModules (setting_of lines p) ms →
    AreJobsOf (circuit_of lines) p ms jobs → Accepts (setting_of lines p) ms jobs → IsAcceptedWithoutHalos lines p ms

-- ---- certificates

-- A certificate without its halo lines is one of version 2, with the same limits, and its modules are accepted.
pub record IsAcceptedMigration (l : Limits) (c : CertView) : Type 0 where
  pub section : IsSectionOf l (setting c) 2 (migrated c).entries
  pub accepted : (jobs : List JobView) → AreJobsOfCertificate (migrated c) jobs →
      Accepts (setting c) (modules (migrated c)) jobs

-- what version 1 accepts, its migration accepts
abbrev pub MigrationKeepsAcceptance : Type 0
MigrationKeepsAcceptance = (l : Limits) (c : CertView) (jobs : List JobView) → c.version ≡ 1 →
    IsSectionOf l (setting c) 1 c.entries → AreJobsOfCertificate c jobs → Accepts (setting c) (modules c) jobs →
    IsAcceptedMigration l c
