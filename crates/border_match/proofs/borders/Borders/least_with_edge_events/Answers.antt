use Rattle.border_match.proofs.Imports.{BorderFault, Borders, Box2, HasCandidateAtMost, HasNoWindowEventBetween}
use Rattle.border_match.proofs.Imports.{IsAtSomeEventBelow, IsExtentOfEvents, IsFaultOfSearchedJob, IsRising}
use Rattle.border_match.proofs.Imports.{IsWindowAround, JobView, List, ShapeView, Signals, TimedSignal, Window, ap}
use Rattle.border_match.proofs.Imports.{arith, ints, moment_cmp, moment_of, pos, shape_of, shift_to_origin, subst, sym}
use Rattle.border_match.proofs.Imports.{ℕ, ◌+◌, ◌∙◌, ◌≡◌}
use Rattle.border_match.proofs.EventSignals.{events_unmoved}
use Rattle.border_match.proofs.Least.{better_for, better_rest, better_same, better_then}
use Rattle.border_match.proofs.Steps.{cornered, cornered_all, far_step, named_step, named_all, rest_covered, same_fault}
use Rattle.border_match.proofs.borders.Borders.least_with_edge_events.Goals as goal

-- the events that the search passes over are no faults
passed : (b : Borders) (other : JobView) (a corner : Box2) (w : Window) (es : List TimedSignal) (s : Signals)
    (sv : ShapeView) (i next : ℕ) (f : BorderFault) → a ≡ b.job.now.area → corner ≡ other.area →
    IsWindowAround a corner w → es ≡ s.events → s ≡ sv.edges → sv ≡ shape_of other →
    HasNoWindowEventBetween w es i next → IsFaultOfSearchedJob b f → IsAtSomeEventBelow next other.edges.events f →
    IsAtSomeEventBelow i other.edges.events f
passed b other a corner w es s sv i next f ea ec is same are shape far g h =
    far_step b other a corner w es i next f ea ec is
    (cornered other es s same (are ∙ ap (λ (s : ShapeView). s.edges) shape)) far g h

pub first_near_event_place-place-requires-clause-extent : goal.first_near_event_place-place-requires-clause-extent
first_near_event_place-place-requires-clause-extent c =
    subst (λ (es : List TimedSignal). IsExtentOfEvents es c.args.extent.now)
    (sym (cornered c.args.other.now c.events-events.result.now c.edges.result.now
    c.events-events.ensures.same_list
    (c.edges.ensures ∙ ap (λ (s : ShapeView). s.edges) (c.deref-shape.ensures ∙ c.shape.ensures)))) c.requires.extent

pub loop-place-init : goal.loop-place-init
loop-place-init c = record {
  better = better_same _ _ _ (λ h f r. let k = passed c.args.self.now c.args.other.now _ _ c.around-window.result
      c.events-events.result.now c.edges.result.now _ 0 _ h c.area.ensures.area c.area-2.ensures.area
      c.around-window.ensures c.events-events.ensures.same_list c.edges.ensures
      (c.deref-shape.ensures ∙ c.shape.ensures)
      c.first_near_event_place-place.ensures f r in let lt = k.below in omega (arith, lt));
  marked = c.requires.marked;
}

pub loop-place-preserved : goal.loop-place-preserved
loop-place-preserved c = record {
  better = better_then _ _ _ _ _ _ _ c.loop-place.invariant.better c.least_with_edge_event-least.ensures.better
      (λ h f r. named_step c.args.other.now.edges.events c.loop-place.place c.edge_event-event.result h
      c.edge_event-event.ensures
      (passed c.args.self.now c.args.other.now _ _ c.around-window.result
      c.events-events.result.now c.edges.result.now _
      (c.loop-place.place + 1) _ h c.area.ensures.area c.area-2.ensures.area
      c.around-window.ensures c.events-events.ensures.same_list c.edges.ensures
      (c.deref-shape.ensures ∙ c.shape.ensures)
      c.next_near_event_place-place.ensures.passed_events_far f r));
  marked = c.least_with_edge_event-least.ensures.marked;
}

pub returns : goal.returns
returns c =
    let other = c.args.other.now in
    let are = cornered other c.events-events.result.now c.edges.result.now c.events-events.ensures.same_list
    (c.edges.ensures ∙ ap (λ (s : ShapeView). s.edges) (c.deref-shape.ensures ∙ c.shape.ensures)) in
    let better = better_for _ _ _ _ _ c.loop-place.invariant.better
    (λ h f r. named_all other.edges.events c.loop-place.place h
    (cornered_all _ _ c.events-events.result.now other.edges.events c.loop-place.place are c.loop-place-test.false)
    r) in
    record { better = better; marked = c.loop-place.invariant.marked }

pub returns-then-not-is_less : goal.returns-then-not-is_less
returns-then-not-is_less c =
    let other = c.args.other.now in
    let are = cornered other c.events-events.result.now c.edges.result.now c.events-events.ensures.same_list
    (c.edges.ensures ∙ ap (λ (s : ShapeView). s.edges) (c.deref-shape.ensures ∙ c.shape.ensures)) in
    let R : List TimedSignal → Type 0 = IsRising moment_cmp moment_of in
    let rising : R other.edges.events =
    events_unmoved (shift_to_origin other.area.x) (shift_to_origin other.area.y) (pos other.area.x) (pos other.area.y)
    other.edges (omega (arith, ints)) (omega (arith, ints)) (subst R are c.events-events.ensures.rising_moments) in
    let covered = subst (HasCandidateAtMost c.loop-place.least)
    (same_fault _ _ c.possible_fault_at.result c.possible_fault_at.ensures.time c.possible_fault_at.ensures.cell)
    (c.is_less.ensures c.if-not-is_less.true) in
    let better = better_rest _ _ _ _ _ c.loop-place.invariant.better
    (λ h r. rest_covered other.edges.events c.loop-place.place
    c.edge_event-event.result c.loop-place.least h rising c.edge_event-event.ensures covered r) in
    record { better = better; marked = c.loop-place.invariant.marked }
