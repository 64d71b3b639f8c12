-- Signals at cells and times
use Rattle.std.specs.Prelude.{◌≡◌, ℕ, ℤ, ◌<◌, ◌&&◌, ◌==◌, Bool, if◌then◌else◌, List, [], ◌∷◌, Option, Some, None}
use Rattle.std.specs.Prelude.{unwrap_or, slice_get}
use Rattle.std.specs.declared.cmp.Ordering.{Ordering}
use Rattle.std.specs.declared.cmp.Ordering.TheVariants.{Less}
use Rattle.bbm_rule.specs.Plane.{is_cell_at}
use Rattle.bbm_rule.specs.declared.block.Cell.{Cell}
use Rattle.module_box.specs.declared.schedules.Moment.{Moment}
use Rattle.module_box.specs.declared.schedules.AllTimesSignal.{AllTimesSignal}
use Rattle.module_box.specs.declared.schedules.TimedSignal.{TimedSignal}
use Rattle.module_box.specs.declared.schedules.Signal.{Signal}
use Rattle.module_box.specs.declared.schedules.Signal.TheVariants.{Zero}

-- the signals at all times and the events of a schedule
pub record Signals : Type 0 where
  pub all_times : List AllTimesSignal
  pub events : List TimedSignal

-- whether the moment is time t at the cell (x, y)
abbrev pub is_moment_at : Moment → ℕ → ℤ → ℤ → Bool
is_moment_at m t x y = (m.time == t) && is_cell_at m.cell x y

-- the signal of the first element with the cell (x, y)
unfoldable pub all_times_at : List AllTimesSignal → ℤ → ℤ → Option Signal
all_times_at [] x y = None
all_times_at (h ∷ hs) x y = if is_cell_at h.cell x y then Some h.signal else all_times_at hs x y

-- the signal of the first element with the time t and the cell (x, y)
unfoldable pub event_at : List TimedSignal → ℕ → ℤ → ℤ → Option Signal
event_at [] t x y = None
event_at (e ∷ es) t x y = if is_moment_at e.at t x y then Some e.signal else event_at es t x y

-- the signal at all times of the cell, else its event at t, else `Zero`
unfoldable pub signal_at : Signals → ℕ → ℤ → ℤ → Signal
signal_at s t x y = unwrap_or (all_times_at s.all_times x y) (unwrap_or (event_at s.events t x y) Zero)

-- each key comes before those after it
pub record IsRising {A K : Type 0} (cmp : K → K → Ordering) (key : A → K) (xs : List A) : Type 0 where
  pub rises : (i j : ℕ) (a b : A) → i < j → slice_get xs i ≡ Some a → slice_get xs j ≡ Some b →
      cmp (key a) (key b) ≡ Less

-- the cell of a signal at all times
abbrev pub cell_of : AllTimesSignal → Cell
cell_of h = h.cell

-- the time and the cell of an event
abbrev pub moment_of : TimedSignal → Moment
moment_of e = e.at
