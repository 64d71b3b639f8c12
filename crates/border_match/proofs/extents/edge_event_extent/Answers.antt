use Rattle.border_match.proofs.Imports.{IsExtentOfEvents, List, ShapeView, TimedSignal, ap, subst, ◌∙◌}
use Rattle.border_match.proofs.Steps.{cornered}
use Rattle.border_match.proofs.extents.edge_event_extent.Goals as goal

pub returns : goal.returns
returns c = subst (λ (es : List TimedSignal). IsExtentOfEvents es c.extent_of_events.result)
    (cornered c.args.job.now c.events.result.now c.edges.result.now c.events.ensures.same_list
    (c.edges.ensures ∙ ap (λ (s : ShapeView). s.edges) (c.deref-shape.ensures ∙ c.shape.ensures)))
    c.extent_of_events.ensures
