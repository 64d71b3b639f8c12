use Rattle.border_match.proofs.Imports.{IsInWindow, List, Some, TimedSignal, arith, below_or_same, common_steps, inl}
use Rattle.border_match.proofs.Imports.{inr, same_some, slice_get, slice_get-get_or, slice_get_within, subst, ℕ, ◌+◌}
use Rattle.border_match.proofs.Imports.{◌<◌, ◌≡◌}
use Rattle.border_match.proofs.extents.extent_of_events.Goals as goal

-- one more event
one_more : (P : TimedSignal → Type 0) (events : List TimedSignal) (i : ℕ) (event : TimedSignal) →
    slice_get events i ≡ Some event → P event →
    ((k : ℕ) (e : TimedSignal) → k < i → slice_get events k ≡ Some e → P e) →
    (k : ℕ) (e : TimedSignal) → k < i + 1 → slice_get events k ≡ Some e → P e
one_more P events i event there holds before k e below got = elim (below_or_same k i below) [
  | inl lower ↦ before k e lower got
  | inr same ↦ subst P (same_some (slice_get events i) event e there
      (subst (λ n. slice_get events n ≡ Some e) same got))
      holds
]

pub loop-event-preserved : goal.loop-event-preserved
loop-event-preserved c = one_more (λ (e : TimedSignal). IsInWindow c.include.new.self e.at.cell) c.args.events.now
    c.loop-event.event-index _ (slice_get-get_or c.args.events.now c.loop-event.event-index _ c.loop-event-test.true)
    c.include.ensures.cell (λ k e l g.
    c.include.ensures.cells_stay_in_window e.at.cell (c.loop-event.invariant k e l g))

pub returns : goal.returns
returns c = grind (arith, common_steps, slice_get_within)
