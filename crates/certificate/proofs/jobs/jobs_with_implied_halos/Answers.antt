use Rattle.certificate.proofs.Imports.{IsGoodModule, IsJobOf, ap, arc_value, arith, circuit_of, length-map, map}
use Rattle.certificate.proofs.Imports.{map-append, mapped_at, module_lines, module_lines_with, setting_of, subst, sym}
use Rattle.certificate.proofs.Imports.{all_module_lines, with_halo_lines, ◌+◌, ◌∙◌}
use Rattle.certificate.proofs.JobsSoFar.{PartJobs, element_at, full_module, one_list_less, one_part_more, parts_done}
use Rattle.certificate.proofs.jobs.jobs_with_implied_halos.Goals as goal

pub make_job-requires : goal.make_job-requires
make_job-requires c =
    let p = c.args.tables.now in
    subst (IsGoodModule p.circuit p.layout c.index-modules-number.result) (sym c.deref-in-loop-number.ensures.value)
    (full_module c.requires.good c.requires.complete c.loop-number.invariant.lists
    (element_at c.args.modules.now c.loop-number.number c.index-modules-number.result c.loop-number-test.true
    c.index-modules-number.is) (c.take_list-list.ensures.list_taken ∙ sym c.deref.ensures.value)
    c.in_ok-halos.ensures.halos
    (c.in_ok-halos.ensures.wires (setting_of p.circuit p.layout) c.requires.good.wires)).good

pub loop-number-preserved : goal.loop-number-preserved
loop-number-preserved c =
    let p = c.args.tables.now in
    let circuit = circuit_of p.circuit in
    let f = with_halo_lines (setting_of p.circuit p.layout) (all_module_lines p.circuit c.args.modules.now) in
    let m = c.index-modules-number.result in
    let at = mapped_at (module_lines circuit) c.args.modules.now c.loop-number.number m
    (element_at c.args.modules.now c.loop-number.number m c.loop-number-test.true c.index-modules-number.is) in
    let is = full_module c.requires.good c.requires.complete c.loop-number.invariant.lists
    (element_at c.args.modules.now c.loop-number.number c.index-modules-number.result c.loop-number-test.true
    c.index-modules-number.is) (c.take_list-list.ensures.list_taken ∙ sym c.deref.ensures.value)
    c.in_ok-halos.ensures.halos
    (c.in_ok-halos.ensures.wires (setting_of p.circuit p.layout) c.requires.good.wires) in
    record {
      jobs = subst (PartJobs circuit p.layout f (all_module_lines p.circuit c.args.modules.now)
          (c.loop-number.number + 1))
          (sym (ap (map arc_value) c.in_ok-push.ensures.items ∙ map-append arc_value c.loop-number.jobs.items _))
          (one_part_more circuit p.layout f (all_module_lines p.circuit c.args.modules.now) c.loop-number.number _ _
          (arc_value c.in_ok-job.job) at
          (subst (λ n. IsJobOf circuit p.layout n (arc_value c.in_ok-job.job))
          (ap (module_lines_with circuit m) c.deref-in-loop-number.ensures.value ∙ is.full) c.in_ok-job.ensures)
          c.loop-number.invariant.jobs);
      lists = one_list_less (setting_of p.circuit p.layout) c.args.modules.now (λ l. l.items) c.loop-number.number
          c.loop-number.places.items c.take_list-list.new.lists.items c.take_list-list.ensures.count
          c.take_list-list.ensures.others c.loop-number.invariant.lists;
    }

pub returns : goal.returns
returns c =
    let p = c.args.tables.now in
    let ms = all_module_lines p.circuit c.args.modules.now in
    let long = length-map c.args.modules.now (module_lines (circuit_of p.circuit)) in
    parts_done (circuit_of p.circuit) p.layout
    (with_halo_lines (setting_of p.circuit p.layout) ms) ms c.loop-number.number _
    (omega (arith, long, c.loop-number-test.false)) c.loop-number.invariant.jobs
