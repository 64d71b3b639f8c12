use Rattle.local_run.proofs.Imports.{HasSameSignalsAtOddTimes, ShapeView, Signals, ap, shape_of, shift_to_origin, subst}
use Rattle.local_run.proofs.Imports.{◌∙◌, ◌≡◌}
use Rattle.local_run.proofs.LeapLemmas.{less_steady, steady_moved}
use Rattle.local_run.proofs.leaps.end_of_quiet_times.Goals as goal

pub returns-clause-edges : goal.returns-clause-edges
returns-clause-edges c =
    let j = c.args.job.now in
    let shape : c.deref-shape.result.now ≡ shape_of j = c.deref-shape.ensures ∙ c.shape.ensures in
    let is = c.edges.ensures ∙ ap (λ (s : ShapeView). s.edges) shape in
    less_steady j.edges c.args.time c.end_of_same_signals-edges.result _ c.end_of_same_signals.ensures.range.1
    (steady_moved j.edges (shift_to_origin j.area.x) (shift_to_origin j.area.y) c.args.time _
    (subst (λ (s : Signals). HasSameSignalsAtOddTimes s c.args.time c.end_of_same_signals-edges.result) is
    c.end_of_same_signals-edges.ensures.signals_unchanged))

pub returns-clause-halos : goal.returns-clause-halos
returns-clause-halos c =
    let j = c.args.job.now in
    let shape : c.deref-shape.result.now ≡ shape_of j = c.deref-shape.ensures ∙ c.shape.ensures in
    let is = c.halos.ensures ∙ ap (λ (s : ShapeView). s.halos) shape in
    steady_moved j.halos (shift_to_origin j.area.x) (shift_to_origin j.area.y) c.args.time _
    (subst (λ (s : Signals). HasSameSignalsAtOddTimes s c.args.time c.end_of_same_signals.result) is
    c.end_of_same_signals.ensures.signals_unchanged)
