-- Times in which nothing changes
use Rattle.std.specs.Prelude.{◌≡◌, ℕ, ℤ, ◌+◌, ◌-◌, ◌%◌, Bool, false, ◌<◌, ◌≤◌, List, slice_get, Some}
use Rattle.circuit.specs.Meaning.{Valuation}
use Rattle.module_box.specs.Schedules.{Signals, signal_at}
use Rattle.module_box.specs.declared.schedules.TimedSignal.{TimedSignal}
use Rattle.module_job.specs.Jobs.{JobView}
use Rattle.local_run.specs.Runs.{local_run}

-- the run at each time from t up to n is that at time t
abbrev pub IsRunUnchangedUntil : JobView → Valuation → ℕ → ℕ → Type 0
IsRunUnchangedUntil j u t n = (k : ℕ) (x y : ℤ) → t ≤ k → k ≤ n → local_run j u k x y ≡ local_run j u t x y

-- the signals of a schedule at each odd time from t on, before n, are those at time t
abbrev pub HasSameSignalsAtOddTimes : Signals → ℕ → ℕ → Type 0
HasSameSignalsAtOddTimes s t n = (k : ℕ) (x y : ℤ) → t ≤ k → k < n → k % 2 ≡ 1 → signal_at s k x y ≡ signal_at s t x y

-- o is the odd one of two times that follow one another, of which t is the first
pub record IsOddOfTimePair (t o : ℕ) : Type 0 where
  pub odd : o % 2 ≡ 1
  pub from : t ≤ o
  pub next : o ≤ t + 1

-- the times of the events before place `low` are less than t, and those from place `high` on are not
pub record AreEventPlacesAroundTime (es : List TimedSignal) (t low high : ℕ) : Type 0 where
  pub below : (i : ℕ) (e : TimedSignal) → i < low → slice_get es i ≡ Some e → e.at.time < t
  pub above : (i : ℕ) (e : TimedSignal) → high ≤ i → slice_get es i ≡ Some e → t ≤ e.at.time

-- the events from this place on are later than time t
abbrev pub AreEventsLaterFrom : List TimedSignal → ℕ → ℕ → Type 0
AreEventsLaterFrom es place t = (i : ℕ) (e : TimedSignal) → place ≤ i → slice_get es i ≡ Some e → t < e.at.time

-- none of the events is at a time from t on, before n
abbrev pub HasNoEventsBetween : List TimedSignal → ℕ → ℕ → Type 0
HasNoEventsBetween events t n =
    (i : ℕ) (e : TimedSignal) → slice_get events i ≡ Some e → t ≤ e.at.time → e.at.time < n → ⊥

-- Nothing changed at the even time t and at the odd one before. The signals of ring and halo stay as they were at the
-- odd one until time n
pub record IsLeap (j : JobView) (t : ℕ) (changed : Bool) (n : ℕ) : Type 0 where
  pub unchanged : changed ≡ false
  pub even : t % 2 ≡ 0
  pub later : 1 ≤ t
  pub edges : HasSameSignalsAtOddTimes j.edges (t - 1) n
  pub halos : HasSameSignalsAtOddTimes j.halos (t - 1) n
