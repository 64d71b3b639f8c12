-- The cells of the events so far are in the extent.
use Rattle.border_match.proofs.Imports.{IsInWindow, Some, TimedSignal, slice_get, ℕ, ◌<◌, ◌≡◌}
use Rattle.border_match.proofs.extents.extent_of_events.Given as goal

abbrev pub invariant-loop-event : goal.invariant-loop-event
invariant-loop-event l =
    (k : ℕ) (e : TimedSignal) → k < l.event-index → slice_get l.events k ≡ Some e → IsInWindow l.extent e.at.cell
