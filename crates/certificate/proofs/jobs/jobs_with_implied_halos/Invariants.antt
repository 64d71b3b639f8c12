-- The modules before have their jobs, and the others have their lists of places.
use Rattle.certificate.proofs.Imports.{HaveEdgePlacesFromModule, all_module_lines, arc_value, map, setting_of}
use Rattle.certificate.proofs.Imports.{with_halo_lines}
use Rattle.certificate.proofs.JobsSoFar.{PartJobs}
use Rattle.certificate.proofs.jobs.jobs_with_implied_halos.Given as goal

abbrev pub invariant-loop-number : goal.invariant-loop-number
invariant-loop-number l =
    let g = setting_of l.tables.circuit l.tables.layout in
    let ms = all_module_lines l.tables.circuit l.modules in
    record {
      jobs : PartJobs g.circuit l.tables.layout (with_halo_lines g ms) ms l.number (map arc_value l.jobs.items);
      lists : HaveEdgePlacesFromModule g l.modules l.number (map (λ l. l.items) l.places.items);
    }
