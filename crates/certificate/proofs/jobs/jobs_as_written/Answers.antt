use Rattle.certificate.proofs.Imports.{IsGoodModule, IsJobOf, all_module_lines, ap, arc_value, arith, circuit_of}
use Rattle.certificate.proofs.Imports.{length-map, map, map-append, mapped_at, module_lines, module_lines_with, subst}
use Rattle.certificate.proofs.Imports.{sym, ◌+◌, ◌∙◌}
use Rattle.lemmas.proofs.Common.{map-id}
use Rattle.certificate.specs.Jobs.{AreJobsOf}
use Rattle.certificate.proofs.JobsSoFar.{PartJobs, element_at, good_at, one_part_more, parts_done}
use Rattle.certificate.proofs.jobs.jobs_as_written.Goals as goal

pub make_job-requires : goal.make_job-requires
make_job-requires c =
    subst (IsGoodModule c.args.tables.now.circuit c.args.tables.now.layout c.module-item.result)
    (sym c.deref.ensures.value)
    (good_at c.loop-module.module-index c.requires
    (element_at c.args.modules.now c.loop-module.module-index c.module-item.result c.loop-module-test.true
    c.module-item.is))

pub loop-module-preserved : goal.loop-module-preserved
loop-module-preserved c =
    let p = c.args.tables.now in
    let circuit = circuit_of p.circuit in
    let m = c.module-item.result in
    let at = mapped_at (module_lines circuit) c.args.modules.now c.loop-module.module-index m
    (element_at c.args.modules.now c.loop-module.module-index m c.loop-module-test.true c.module-item.is) in
    subst (PartJobs circuit p.layout (λ m. m) (all_module_lines p.circuit c.args.modules.now)
    (c.loop-module.module-index + 1))
    (sym (ap (map arc_value) c.in_ok-push.ensures.items ∙ map-append arc_value c.loop-module.jobs.items _))
    (one_part_more circuit p.layout (λ m. m)
    (all_module_lines p.circuit c.args.modules.now) c.loop-module.module-index _ _
    (arc_value c.in_ok-job.job) at
    (subst (λ hs. IsJobOf circuit p.layout (module_lines_with circuit m hs) (arc_value c.in_ok-job.job))
    c.deref.ensures.value c.in_ok-job.ensures) c.loop-module.invariant)

pub returns : goal.returns
returns c =
    let p = c.args.tables.now in
    let ms = all_module_lines p.circuit c.args.modules.now in
    let long = length-map c.args.modules.now (module_lines (circuit_of p.circuit)) in
    subst (λ ns. AreJobsOf (circuit_of p.circuit) p.layout ns (map arc_value c.loop-module.jobs.items)) (map-id ms)
    (parts_done (circuit_of p.circuit) p.layout (λ m. m) ms c.loop-module.module-index _
    (omega (arith, long, c.loop-module-test.false)) c.loop-module.invariant)
