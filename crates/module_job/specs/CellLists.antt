-- The starts and demands of the cells of a box, by their numbers
use Rattle.std.specs.Prelude.{ℕ, zero, suc, ◌<◌, List, map}
use Rattle.std.specs.List.{All}
use Rattle.module_box.specs.declared.schedules.Signal.{Signal}
use Rattle.module_box.specs.declared.schedules.Signal.TheVariants.{Zero, One, Wire}
use Rattle.module_job.specs.declared.cell_lists.EndDemands.TheInside as OfDemands
use Rattle.module_job.specs.declared.cell_lists.StartSignals.TheInside as OfStarts
use Rattle.module_job.specs.declared.job.Demand.{Demand}
use Rattle.module_job.specs.declared.job.Demand.TheVariants as Demanded

-- the signal that has this number
abbrev pub signal_from_number : ℕ → Signal
signal_from_number zero = Zero
signal_from_number (suc zero) = One
signal_from_number (suc (suc w)) = Wire w

-- the demand that has this number
abbrev pub demand_from_number : ℕ → Demand
demand_from_number zero = Demanded.Dead
demand_from_number (suc zero) = Demanded.Live
demand_from_number (suc (suc zero)) = Demanded.Any
demand_from_number (suc (suc (suc w))) = Demanded.Wire w

-- the signals, from the fields
abbrev pub starts_view : OfStarts.Inside → List Signal
starts_view a = map signal_from_number a.numbers

-- the demands, from the fields
abbrev pub demands_view : OfDemands.Inside → List Demand
demands_view a = map demand_from_number a.numbers

-- the wire of each signal has 16 bits
abbrev pub AreSignalWires16Bit : OfStarts.Inside → Type 0
AreSignalWires16Bit a = All (λ n. n < 65538) a.numbers

-- the wire of each demand has 16 bits
abbrev pub AreDemandWires16Bit : OfDemands.Inside → Type 0
AreDemandWires16Bit a = All (λ n. n < 65539) a.numbers
