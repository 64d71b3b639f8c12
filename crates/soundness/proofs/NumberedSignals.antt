-- The wires that signals name, by their places in a list of wires
use Rattle.soundness.proofs.Imports.{AllTimesSignal, Bool, BorderLine, Circuit, Each, IfSome, IsSignalWireBelow, IsTrue}
use Rattle.soundness.proofs.Imports.{List, None, One, Option, Signal, Signals, Some, TimedSignal, Wire, Zero, [], arith}
use Rattle.soundness.proofs.Imports.{common_steps, event_if_timed, false, false≢true, if◌then◌else◌, is_among, is_local}
use Rattle.soundness.proofs.Imports.{is_local_wire, length, line_signals, map, nat_tests, one_or_named_wire, refl}
use Rattle.soundness.proofs.Imports.{renumber_all_times, renumber_event, renumber_signal, signal_if_starred}
use Rattle.soundness.proofs.Imports.{slice_index, suc, true, wire_of, wire_or_zero, ℕ, ◌++◌, ◌<◌, ◌==◌, ◌||◌, ◌∷◌, ◌≡◌}

-- ---- the number of a wire in a list of wires

unfoldable pub place_among : List ℕ → ℕ → ℕ
place_among [] w = 0
place_among (v ∷ ws) w = if v == w then 0 else suc (place_among ws w)

pub record IsPlace (ws : List ℕ) (w i : ℕ) : Type 0 where
  pub below : i < length ws
  pub there : slice_index ws i ≡ w

same_number : (v w : ℕ) → (v == w) ≡ true → v ≡ w
same_number v w e = grind (arith, nat_tests)

place_step : (v w : ℕ) (ws : List ℕ) (b : Bool) → (v == w) ≡ b → (b || is_among ws w) ≡ true →
    (is_among ws w ≡ true → IsPlace ws w (place_among ws w))
    → IsPlace (v ∷ ws) w (if b then 0 else suc (place_among ws w))
place_step v w ws true same e more = record { below = omega arith; there = same_number v w same }
place_step v w ws false other e more = grind (arith, common_steps)

pub is_place : (ws : List ℕ) (w : ℕ) → is_among ws w ≡ true → IsPlace ws w (place_among ws w)
unfolding place_among
is_place [] w e = absurd (false≢true e)
is_place (v ∷ ws) w e = place_step v w ws (v == w) refl e (is_place ws w)

-- a signal over those wires
unfoldable pub numbered : List ℕ → Signal → Signal
numbered ws Zero = Zero
numbered ws One = One
numbered ws (Wire w) = Wire (place_among ws w)

pub record IsNumbered (ws : List ℕ) (s : Signal) : Type 0 where
  pub back : renumber_signal (slice_index ws) (numbered ws s) ≡ s
  pub below : IsSignalWireBelow (length ws) (numbered ws s)

-- ---- the signals of lines that name local wires

module _ (c : Circuit) (ws : List ℕ) where
  abbrev pub IsNamed : BorderLine → Type 0
  IsNamed e = IfSome e.signal (λ name. IsTrue (is_local c ws name))

  pub wire_numbered : (o : Option ℕ) → is_local_wire ws o ≡ true → IsNumbered ws (wire_or_zero o)
  unfolding numbered
  wire_numbered o h1 = grind (arith, common_steps, false≢true, is_place)

  pub signal_numbered : (s : Option (List ℕ)) → IfSome s (λ name. IsTrue (is_local c ws name)) →
      IsNumbered ws (one_or_named_wire c s)
  unfolding numbered
  signal_numbered None h = record { back = refl; below = tt }
  signal_numbered (Some name) h = wire_numbered (wire_of c name) h

  unfoldable pub numbered_all_times : AllTimesSignal → AllTimesSignal
  numbered_all_times h = record h { signal = numbered ws h.signal }

  unfoldable pub numbered_event : TimedSignal → TimedSignal
  numbered_event e = record e { signal = numbered ws e.signal }

  -- what lines say, over those wires
  unfoldable pub numbered_signals : Signals → Signals
  numbered_signals s = record { all_times = map numbered_all_times s.all_times; events = map numbered_event s.events }

  -- what one line says comes back, and names no other wires
  pub record IsBack (hs : List AllTimesSignal) (es : List TimedSignal) : Type 0 where
    pub all_times : map (renumber_all_times (slice_index ws)) (map numbered_all_times hs) ≡ hs
    pub events : map (renumber_event (slice_index ws)) (map numbered_event es) ≡ es
    pub all_times_below : Each (λ h. IsSignalWireBelow (length ws) h.signal) (map numbered_all_times hs)
    pub events_below : Each (λ e. IsSignalWireBelow (length ws) e.signal) (map numbered_event es)

  back_from : (e : BorderLine) (time : Option ℕ) (s : Signal) (hs : List AllTimesSignal) (es : List TimedSignal) →
      IsNumbered ws s → IsBack hs es → IsBack (signal_if_starred e time s ++ hs) (event_if_timed e time s ++ es)
  unfolding numbered_all_times numbered_event Each
  back_from e None s hs es is more = grind (arith, common_steps)
  back_from e (Some t) s hs es is more = grind (arith, common_steps)

  pub lines_back : (es : List BorderLine) → Each IsNamed es →
      IsBack (line_signals c es).all_times (line_signals c es).events
  unfolding Each
  lines_back [] h = record { all_times = refl; events = refl; all_times_below = tt; events_below = tt }
  lines_back (e ∷ es) h = back_from e e.time (one_or_named_wire c e.signal) _ _ (signal_numbered e.signal h.0)
      (lines_back es h.1)
