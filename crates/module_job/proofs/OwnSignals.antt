-- A wire that the signals of a job name is one of its own, at each cell and time
use Rattle.lemmas.proofs.Common.{All, All-head, All-tail, List, [], cases_Bool, inl, inr, unwrap_or, ℕ, ℤ, ◌∷◌}
use Rattle.bbm_rule.specs.Plane.{is_cell_at}
use Rattle.module_box.specs.Schedules.{Signals, all_times_at, event_at, is_moment_at, signal_at}
use Rattle.module_box.specs.declared.schedules.AllTimesSignal.{AllTimesSignal}
use Rattle.module_box.specs.declared.schedules.Signal.{Signal}
use Rattle.module_box.specs.declared.schedules.Signal.TheVariants.{Zero}
use Rattle.module_box.specs.declared.schedules.TimedSignal.{TimedSignal}
use Rattle.circuit.specs.Meaning.{wires}
use Rattle.module_job.specs.Jobs.{JobView, NamesOnlyOwnWires}
use Rattle.module_job.specs.Signals.{IsSignalWireBelow}

all_times_below : (n : ℕ) (hs : List AllTimesSignal) (x y : ℤ) (d : Signal) →
    All (λ h. IsSignalWireBelow n h.signal) hs → IsSignalWireBelow n d →
    IsSignalWireBelow n (unwrap_or (all_times_at hs x y) d)
unfolding all_times_at
all_times_below n [] x y d all b = b
all_times_below n (h ∷ hs) x y d all b = elim (cases_Bool (is_cell_at h.cell x y)) [
  | inl e ↦ rw e (All-head (λ (g : AllTimesSignal). IsSignalWireBelow n g.signal) h hs all)
  | inr e ↦ rw e (all_times_below n hs x y d
      (All-tail (λ (g : AllTimesSignal). IsSignalWireBelow n g.signal) h hs all) b)
]

event_below : (n : ℕ) (es : List TimedSignal) (t : ℕ) (x y : ℤ) (d : Signal) →
    All (λ e. IsSignalWireBelow n e.signal) es →
    IsSignalWireBelow n d → IsSignalWireBelow n (unwrap_or (event_at es t x y) d)
unfolding event_at
event_below n [] t x y d all b = b
event_below n (e ∷ es) t x y d all b = elim (cases_Bool (is_moment_at e.at t x y)) [
  | inl h ↦ rw h (All-head (λ (g : TimedSignal). IsSignalWireBelow n g.signal) e es all)
  | inr h ↦ rw h (event_below n es t x y d (All-tail (λ (g : TimedSignal). IsSignalWireBelow n g.signal) e es all) b)
]

signal_below : (n : ℕ) (s : Signals) (t : ℕ) (x y : ℤ) → All (λ h. IsSignalWireBelow n h.signal) s.all_times →
    All (λ e. IsSignalWireBelow n e.signal) s.events → IsSignalWireBelow n (signal_at s t x y)
unfolding signal_at
signal_below n s t x y hs es =
    all_times_below n s.all_times x y (unwrap_or (event_at s.events t x y) Zero) hs
    (event_below n s.events t x y Zero es tt)

pub edge_below : (j : JobView) (t : ℕ) (x y : ℤ) → NamesOnlyOwnWires j →
    IsSignalWireBelow (wires j.locals.netlist) (signal_at j.edges t x y)
edge_below j t x y own = signal_below (wires j.locals.netlist) j.edges t x y own.edge_all_times own.edge_events

pub halo_below : (j : JobView) (t : ℕ) (x y : ℤ) → NamesOnlyOwnWires j →
    IsSignalWireBelow (wires j.locals.netlist) (signal_at j.halos t x y)
halo_below j t x y own = signal_below (wires j.locals.netlist) j.halos t x y own.halo_all_times own.halo_events
