-- The signal of the cell and time of an event
use Rattle.border_match.proofs.Imports.{IsEventListed, IsRising, List, Signals, TimedSignal, [], all_times_at, ap}
use Rattle.border_match.proofs.Imports.{arith, common_steps, ints, moment_cmp, moment_of, moment_total, moved_signals}
use Rattle.border_match.proofs.Imports.{pos, shift_to_origin, signal_at, signals_back, subst, ℕ, ℤ, ◌+ℤ◌, ◌≡◌}
use Rattle.module_box.proofs.MovedBoxes.{events_rising}
use Rattle.module_box.proofs.Rising.{event_some, is_first}

-- events that rise once they are moved rise before
pub events_unmoved : (dx dy ex ey : ℤ) (s : Signals) → dx +ℤ ex ≡ pos 0 → dy +ℤ ey ≡ pos 0 →
    IsRising moment_cmp moment_of (moved_signals dx dy s).events → IsRising moment_cmp moment_of s.events
events_unmoved dx dy ex ey s p q rising =
    subst (λ (m : Signals). IsRising moment_cmp moment_of m.events) (signals_back dx dy ex ey s p q)
    (events_rising ex ey (moved_signals dx dy s).events rising)

signal_at_event : (s : Signals) (e : TimedSignal) → s.all_times ≡ [] → IsRising moment_cmp moment_of s.events →
    IsEventListed s.events e → signal_at s e.at.time e.at.cell.x e.at.cell.y ≡ e.signal
unfolding signal_at all_times_at
signal_at_event s e none rising at = grind (arith, common_steps, event_some, is_first, moment_total)

-- if no line with a star is among the signals, the event alone says it
pub own_signal : (x y : ℕ) (s moved : Signals) (e : TimedSignal) → s.all_times ≡ [] →
    moved ≡ moved_signals (shift_to_origin x) (shift_to_origin y) s → IsRising moment_cmp moment_of moved.events →
    IsEventListed s.events e → signal_at s e.at.time e.at.cell.x e.at.cell.y ≡ e.signal
own_signal x y s moved e none are rising at =
    let R : List TimedSignal → Type 0 = IsRising moment_cmp moment_of in
    signal_at_event s e none
    (events_unmoved (shift_to_origin x) (shift_to_origin y) (pos x) (pos y) s (omega (arith, ints))
    (omega (arith, ints))
    (subst R (ap (λ (m : Signals). m.events) are) rising)) at
