use Rattle.border_match.proofs.Imports.{IsEdgeEventExtent, JobView, Some, Window, ap, arc_value, arith, map, same_some}
use Rattle.border_match.proofs.Imports.{slice_get, subst, ℕ, ◌∙◌, ◌≡◌}
use Rattle.border_match.proofs.Cells.{job_at}
use Rattle.border_match.proofs.Modules.{pushed_more}
use Rattle.border_match.proofs.extents.edge_event_extents.Goals as goal

pub loop-job-preserved : goal.loop-job-preserved
loop-job-preserved c =
    let js = map arc_value c.args.jobs.now in
    let own = c.deref.result.now in
    let got : slice_get js c.loop-job.job-index ≡ Some own =
    job_at arc_value c.args.jobs.now c.loop-job.job-index _ own c.loop-job-test.true
    (c.deref.ensures ∙ ap arc_value c.job-item.is) in
    let P : ℕ → Window → Type 0 = λ k w. (j : JobView) → slice_get js k ≡ Some j → IsEdgeEventExtent j w in
    record {
      sized = omega (arith, c.in_ok-push.ensures.len, c.loop-job.invariant.sized);
      holds = pushed_more P c.loop-job.extents.items _ c.loop-job.job-index c.edge_event_extent.result
          (omega (arith, c.loop-job.extents.ok, c.loop-job.invariant.sized)) c.in_ok-push.ensures.items
          c.loop-job.invariant.holds
          (λ j e. subst (λ (z : JobView). IsEdgeEventExtent z c.edge_event_extent.result) (same_some _ own j got e)
          c.edge_event_extent.ensures);
    }
