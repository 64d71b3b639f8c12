use Rattle.module_job.proofs.Imports.{Decides-eqb, Some, [], ap, arc_value, arith, false≢true, get_or, lists, map}
use Rattle.module_job.proofs.Imports.{nat_eq, slice_get, sym, ◌∙◌, ◌≡◌}
use Rattle.lemmas.proofs.Common.{below_more}
use Rattle.module_job.proofs.EqualJobs.{shapes_decide}
use Rattle.module_job.proofs.FirstShapes.{one_value, same_read, value_at}
use Rattle.module_job.proofs.groups.first_equal_shape_number.Goals.{then-eq+else-same, else-eq}
use Rattle.module_job.proofs.groups.first_equal_shape_number.Goals as goal

pub returns-then-same : goal.returns-then-same
returns-then-same c =
    let xs = c.args.shapes.now in
    let s = c.deref-own.result.now in
    let t = c.deref-other.result.now in
    let own : slice_get (map arc_value xs) c.args.number ≡ Some s =
    value_at arc_value xs c.args.number _ s c.requires.number c.index-shapes-number.is c.deref-own.ensures in
    let other : slice_get (map arc_value xs) c.loop-earlier.earlier ≡ Some t =
    value_at arc_value xs c.loop-earlier.earlier _ t (omega arith) c.index-shapes-earlier.is c.deref-other.ensures in
    let same : t ≡ s = (shapes_decide t s).0 (sym c.eq-same.ensures ∙ c.if-same.true) in
    record { same = other ∙ ap Some same ∙ sym own; first = c.loop-earlier.invariant }

pub loop-earlier-preserved : goal.loop-earlier-preserved
loop-earlier-preserved c =
    let xs = c.args.shapes.now in
    let s = c.deref-own.result.now in
    let own : slice_get (map arc_value xs) c.args.number ≡ Some s =
    value_at arc_value xs c.args.number _ s c.requires.number c.index-shapes-number.is c.deref-own.ensures in
    below_more _ _ c.loop-earlier.invariant (elim c.if-eq.branch [
      | then-eq+else-same w ↦ (λ e.
          let t = w.deref-other.result.now in
          let other : slice_get (map arc_value xs) c.loop-earlier.earlier ≡ Some t =
          value_at arc_value xs c.loop-earlier.earlier _ t
          (omega arith) w.index-shapes-earlier.is w.deref-other.ensures in
          false≢true (sym w.if-same.false ∙ w.eq-same.ensures ∙ (shapes_decide t s).1 (one_value _ _ t s other own e)))
      | else-eq w ↦ (λ e.
          let ks = c.args.keys.now in
          let same = same_read ks c.loop-earlier.earlier c.args.number []
          (c.requires.keys.same c.loop-earlier.earlier c.args.number e) in
          false≢true (sym w.if-eq.false ∙ c.eq.ensures
          ∙ (lists nat_eq Decides-eqb (get_or ks c.loop-earlier.earlier []) (get_or ks c.args.number [])).1 same))
    ])

pub loop-earlier-init : goal.loop-earlier-init
loop-earlier-init c = λ i lt e. c.requires.first.first i lt (c.requires.keys.same i c.args.number e)
