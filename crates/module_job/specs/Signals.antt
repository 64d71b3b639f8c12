-- The meaning of signals and demands, and their renumbering by other numbers of the wires
use Rattle.std.specs.Prelude.{◌≡◌, ℕ, ◌<◌, Bool, true, false, map}
use Rattle.circuit.specs.Meaning.{Valuation}
use Rattle.module_box.specs.Schedules.{Signals}
use Rattle.module_box.specs.declared.schedules.TimedSignal.{TimedSignal}
use Rattle.module_box.specs.declared.schedules.AllTimesSignal.{AllTimesSignal}
use Rattle.module_box.specs.declared.schedules.Signal.{Signal}
use Rattle.module_box.specs.declared.schedules.Signal.TheVariants.{Zero, One, Wire}
use Rattle.module_job.specs.declared.job.Demand.{Demand}
use Rattle.module_job.specs.declared.job.Demand.TheVariants as Demanded
use Rattle.module_job.specs.declared.job.Stop.{Stop}

-- whether a cell that carries the signal is live, if the wires have these values
abbrev pub is_live : Valuation → Signal → Bool
is_live v Zero = false
is_live v One = true
is_live v (Wire w) = v w

-- a cell that is live or not meets a demand
abbrev pub MeetsDemand : Valuation → Demand → Bool → Type 0
MeetsDemand v Demanded.Dead live = live ≡ false
MeetsDemand v Demanded.Live live = live ≡ true
MeetsDemand v (Demanded.Wire w) live = live ≡ v w
MeetsDemand v Demanded.Any live = Unit {0}

-- ---- the wire that it names, if it names one, is below n

-- the wire of the signal, if it has one, is below n
abbrev pub IsSignalWireBelow : ℕ → Signal → Type 0
IsSignalWireBelow n Zero = Unit {0}
IsSignalWireBelow n One = Unit {0}
IsSignalWireBelow n (Wire w) = w < n

-- the wire of the demand, if it has one, is below n
abbrev pub IsDemandWireBelow : ℕ → Demand → Type 0
IsDemandWireBelow n (Demanded.Wire w) = w < n
IsDemandWireBelow n _ = Unit {0}

-- ---- signals and demands with other numbers of the wires

-- the signal with another number for its wire
abbrev pub renumber_signal : (ℕ → ℕ) → Signal → Signal
renumber_signal f Zero = Zero
renumber_signal f One = One
renumber_signal f (Wire w) = Wire (f w)

-- the demand with another number for its wire
abbrev pub renumber_demand : (ℕ → ℕ) → Demand → Demand
renumber_demand f Demanded.Dead = Demanded.Dead
renumber_demand f Demanded.Live = Demanded.Live
renumber_demand f (Demanded.Wire w) = Demanded.Wire (f w)
renumber_demand f Demanded.Any = Demanded.Any

-- the signal at all times with another number for its wire
abbrev pub renumber_all_times : (ℕ → ℕ) → AllTimesSignal → AllTimesSignal
renumber_all_times f h = record h { signal = renumber_signal f h.signal }

-- the event with another number for its wire
abbrev pub renumber_event : (ℕ → ℕ) → TimedSignal → TimedSignal
renumber_event f e = record e { signal = renumber_signal f e.signal }

-- the stop with another number for its wire
abbrev pub renumber_stop : (ℕ → ℕ) → Stop → Stop
renumber_stop f s = record s { wire = f s.wire }

-- the signals with other numbers for their wires
abbrev pub renumber_signals : (ℕ → ℕ) → Signals → Signals
renumber_signals f s =
    record { all_times = map (renumber_all_times f) s.all_times; events = map (renumber_event f) s.events }
