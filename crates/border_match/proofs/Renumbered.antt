-- Signals by other numbers of their wires, and times without an event
use Rattle.border_match.proofs.Imports.{All, All-head, All-tail, AllTimesSignal, Bool, BorderLine, IfSome, List, None}
use Rattle.border_match.proofs.Imports.{Option, Signal, Signals, TimedSignal, Zero, [], all_times_at, ap, arith}
use Rattle.border_match.proofs.Imports.{cases_Bool, common_steps, cond-false, cond-true, event_at, event_if_timed}
use Rattle.border_match.proofs.Imports.{false, map, nat_tests, option_map, refl, renumber_event, renumber_signal}
use Rattle.border_match.proofs.Imports.{renumber_signals, signal_at, sym, unwrap_or, ℕ, ℤ, ◌%◌, ◌&&◌, ◌++◌, ◌<◌, ◌==◌}
use Rattle.border_match.proofs.Imports.{◌∙◌, ◌∷◌, ◌≡◌}
use Rattle.lemmas.proofs.Common.{flat_map}
use Rattle.module_job.specs.Signals.{renumber_all_times}

module _ (f : ℕ → ℕ) where
  all_times_renumbered : (hs : List AllTimesSignal) (x y : ℤ) →
      all_times_at (map (renumber_all_times f) hs) x y ≡ option_map (renumber_signal f) (all_times_at hs x y)
  unfolding all_times_at
  all_times_renumbered [] x y = refl
  all_times_renumbered (h ∷ hs) x y =
      grind (arith, common_steps, all_times_renumbered hs x y, cases_Bool, cond-true, cond-false)

  event_renumbered : (es : List TimedSignal) (t : ℕ) (x y : ℤ) →
      event_at (map (renumber_event f) es) t x y ≡ option_map (renumber_signal f) (event_at es t x y)
  unfolding event_at
  event_renumbered [] t x y = refl
  event_renumbered (e ∷ es) t x y =
      grind (arith, common_steps, event_renumbered es t x y, cases_Bool, cond-true, cond-false)

  either : (a b : Option Signal) →
      unwrap_or (option_map (renumber_signal f) a) (unwrap_or (option_map (renumber_signal f) b) Zero)
      ≡ renumber_signal f (unwrap_or a (unwrap_or b Zero))
  either a b = grind (arith, common_steps)

  pub signal_renumbered : (s : Signals) (t : ℕ) (x y : ℤ) →
      renumber_signal f (signal_at s t x y) ≡ signal_at (renumber_signals f s) t x y
  unfolding signal_at
  signal_renumbered s t x y = grind (arith, common_steps, either, all_times_renumbered, event_renumbered)

  none_back : (o : Option Signal) → option_map (renumber_signal f) o ≡ None → o ≡ None
  none_back o h1 = grind (arith, common_steps)

  pub no_event_back : (es : List TimedSignal) (t : ℕ) (x y : ℤ) → event_at (map (renumber_event f) es) t x y ≡ None →
      event_at es t x y ≡ None
  no_event_back es t x y e = none_back (event_at es t x y) (sym (event_renumbered es t x y) ∙ e)

-- ---- no line names the time 0

not_zero : (t : ℕ) → t % 2 ≡ 1 → (t == 0) ≡ false
not_zero t h = grind (arith, nat_tests)

not_then : (t : ℕ) (b : Bool) → t % 2 ≡ 1 → ((t == 0) && b) ≡ false
not_then t b h = ap (λ a. a && b) (not_zero t h)

one_quiet : (n : ℕ) (e : BorderLine) (t : Option ℕ) (s : Signal) (rest : List TimedSignal) (x y : ℤ) →
    IfSome t (λ t. (t % 2 ≡ 1) × (t < n)) → event_at rest 0 x y ≡ None →
    event_at (event_if_timed e t s ++ rest) 0 x y ≡ None
unfolding event_at
one_quiet n e t s rest x y h1 h2 = grind (arith, common_steps, cond-false, not_then)

pub lines_quiet : (n : ℕ) (signal : BorderLine → Signal) (es : List BorderLine) (x y : ℤ) →
    All (λ e. IfSome e.time (λ t. (t % 2 ≡ 1) × (t < n))) es →
    event_at (flat_map (λ e. event_if_timed e e.time (signal e)) es) 0 x y ≡ None
unfolding event_at
lines_quiet n signal [] x y all = refl
lines_quiet n signal (e ∷ es) x y all =
    let P : BorderLine → Type 0 = λ e. IfSome e.time (λ t. (t % 2 ≡ 1) × (t < n)) in
    one_quiet n e e.time (signal e) _ x y (All-head P e es all) (lines_quiet n signal es x y (All-tail P e es all))
