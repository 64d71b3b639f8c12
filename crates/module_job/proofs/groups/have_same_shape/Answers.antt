use Rattle.module_job.proofs.Imports.{Some, ap, arc_value, map, shape_of, slice_get, sym, ◌∙◌, ◌≡◌}
use Rattle.module_job.proofs.EqualJobs.{shapes_decide}
use Rattle.module_job.proofs.FirstShapes.{one_value, value_twice}
use Rattle.module_job.proofs.groups.have_same_shape.Goals as goal

pub returns : goal.returns
returns c =
    let js = c.args.jobs.now in
    let s = c.deref-left.result.now in
    let t = c.deref-right.result.now in
    let left : slice_get (map shape_of (map arc_value js)) c.args.one ≡ Some s =
    value_twice arc_value shape_of js c.args.one _ s c.requires.one_below_count c.index-jobs-one.is
    (c.deref-left.ensures ∙ c.shape.ensures ∙ ap shape_of c.deref.ensures) in
    let right : slice_get (map shape_of (map arc_value js)) c.args.other ≡ Some t =
    value_twice arc_value shape_of js c.args.other _ t c.requires.other_below_count c.index-jobs-other.is
    (c.deref-right.ensures ∙ c.shape-2.ensures ∙ ap shape_of c.deref-2.ensures) in (
      λ same. left ∙ ap Some ((shapes_decide s t).0 (sym c.eq.ensures ∙ same)) ∙ sym right,
      λ e. c.eq.ensures ∙ (shapes_decide s t).1 (one_value _ _ s t left right e),
    )
