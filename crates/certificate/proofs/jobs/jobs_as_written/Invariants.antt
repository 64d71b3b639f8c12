-- The modules before have their jobs.
use Rattle.certificate.proofs.Imports.{all_module_lines, arc_value, circuit_of, map}
use Rattle.certificate.proofs.JobsSoFar.{PartJobs}
use Rattle.certificate.proofs.jobs.jobs_as_written.Given as goal

abbrev pub invariant-loop-module : goal.invariant-loop-module
invariant-loop-module l = PartJobs (circuit_of l.tables.circuit) l.tables.layout (λ m. m)
    (all_module_lines l.tables.circuit l.modules) l.module-index (map arc_value l.jobs.items)
