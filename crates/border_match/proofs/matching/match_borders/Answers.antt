use Rattle.border_match.proofs.Imports.{IsBorderFaultOfJob, IsLeastBorderFault, IsLeastCandidate, IsOwnerTableOfJobs}
use Rattle.border_match.proofs.Imports.{LayoutHeader, Some, ap, arc_value, arith, common_steps, map, modules_in}
use Rattle.border_match.proofs.Imports.{setting_of, slice_get, subst, sym, whole, ◌∙◌, ◌≡◌}
use Rattle.lemmas.proofs.Common.{Err, IfOk, Ok, Result}
use Rattle.module_box.specs.Tiling.{IsTilingOwnerTable}
use Rattle.certificate_lines.specs.Entries.{modules_of}
use Rattle.certificate_lines.specs.Versions.{modules_by_version}
use Rattle.certificate.proofs.FullModules.{meant_areas}
use Rattle.border_match.proofs.Bridge.{board, quiet_job, least_by_lines}
use Rattle.border_match.proofs.Cells.{job_at}
use Rattle.border_match.proofs.Modules.{pushed_more}
use Rattle.border_match.proofs.Haloless.{none_for_each}
use Rattle.border_match.proofs.matching.match_borders.Goals as goal

told : {X E : Type 0} {P Q : X → Type 0} (r : Result X E) → ((x : X) → P x → Q x) → IfOk r P → IfOk r Q
told (Ok x) f p = f x p
told (Err e) f p = p

pub returns-then-is_haloless : goal.returns-then-is_haloless
unfolding modules_by_version
returns-then-is_haloless c = grind (arith, common_steps, told, none_for_each)

pub least_fault-requires-clause-borders_ready : goal.least_fault-requires-clause-borders_ready
least_fault-requires-clause-borders_ready c =
    let s = c.args.cert.now in
    let js = map arc_value c.args.jobs.now in
    let o = c.owners-owners.result.now in
    let owners = c.owners-owners.ensures in
    let are = subst (IsTilingOwnerTable o)
    (sym (meant_areas s.version (setting_of s.circuit s.layout) (modules_of s.entries)))
    owners.owners in
    let good = c.modules-count.ensures.valid.good in
    let got : slice_get js c.loop-job.job-index ≡ Some c.deref.result.now =
    job_at arc_value c.args.jobs.now c.loop-job.job-index _ c.deref.result.now c.loop-job-test.true
    (c.deref.ensures ∙ ap arc_value c.job-item.is) in (
      subst (λ (z : LayoutHeader). IsOwnerTableOfJobs (whole z) o js) (sym c.size-size.ensures.size)
          (board s.circuit s.layout (modules_in s) js o good c.requires are
          owners.width owners.height),
      quiet_job s.circuit s.layout (modules_in s) js o good c.requires are
          owners.width owners.height c.loop-job.job-index c.deref.result.now got,
    )

pub loop-job-preserved : goal.loop-job-preserved
loop-job-preserved c =
    let s = c.args.cert.now in
    let js = map arc_value c.args.jobs.now in
    let o = c.owners-owners.result.now in
    let owners = c.owners-owners.ensures in
    let are = subst (IsTilingOwnerTable o)
    (sym (meant_areas s.version (setting_of s.circuit s.layout) (modules_of s.entries)))
    owners.owners in
    let good = c.modules-count.ensures.valid.good in
    let got : slice_get js c.loop-job.job-index ≡ Some c.deref.result.now =
    job_at arc_value c.args.jobs.now c.loop-job.job-index _ c.deref.result.now c.loop-job-test.true
    (c.deref.ensures ∙ ap arc_value c.job-item.is) in
    let found : IsLeastCandidate (IsBorderFaultOfJob (whole s.layout.size) o js c.deref.result.now)
    c.in_ok-least_fault.field-0 =
    subst (λ (z : LayoutHeader). IsLeastCandidate
    (IsBorderFaultOfJob (whole z) o js c.deref.result.now) c.in_ok-least_fault.field-0)
    c.size-size.ensures.size c.in_ok-least_fault.ensures in
    let least = least_by_lines s.circuit s.layout
    (modules_in s) js o good c.requires are owners.width
    owners.height c.loop-job.job-index c.deref.result.now c.in_ok-least_fault.field-0 got found in (
      omega (arith, c.in_ok-push.ensures.len, c.loop-job.invariant.0),
      pushed_more (IsLeastBorderFault (setting_of s.circuit s.layout) (modules_in s)) c.loop-job.faults.items _
          c.loop-job.job-index c.in_ok-least_fault.field-0
          (omega (arith, c.loop-job.faults.ok, c.loop-job.invariant.0)) c.in_ok-push.ensures.items
          c.loop-job.invariant.1 least,
    )
