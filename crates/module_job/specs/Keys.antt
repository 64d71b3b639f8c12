-- The numbers of a shape, which differ for different shapes, and its key
use Rattle.std.specs.Prelude.{◌≡◌, ℕ, ℤ, pos, negsuc, ◌+◌, ◌*◌, ◌^◌, ◌<◌, nat_eq, nat_lt, if◌then◌else◌, List, [], ◌∷◌}
use Rattle.std.specs.Prelude.{◌++◌, length, map}
use Rattle.std.specs.List.{All, flat_map}
use Rattle.std.specs.Int.{to_le_bytes, w16, w64}
use Rattle.sha2.specs.Sha256.{sha256}
use Rattle.bbm_rule.specs.declared.block.Cell.{Cell}
use Rattle.module_box.specs.Numbers.{IsPrefixFree, length_prefixed, netlist_numbers}
use Rattle.module_box.specs.Schedules.{Signals}
use Rattle.module_box.specs.declared.schedules.TimedSignal.{TimedSignal}
use Rattle.module_box.specs.declared.schedules.AllTimesSignal.{AllTimesSignal}
use Rattle.module_box.specs.declared.schedules.Signal.{Signal}
use Rattle.module_box.specs.declared.schedules.Signal.TheVariants.{Zero, One, Wire}
use Rattle.module_job.specs.Shapes.{ShapeView}
use Rattle.module_job.specs.declared.job.Demand.{Demand}
use Rattle.module_job.specs.declared.job.Demand.TheVariants as Demanded
use Rattle.module_job.specs.declared.job.Stop.{Stop}

-- the number of a signal
abbrev pub signal_number : Signal → ℕ
signal_number Zero = 0
signal_number One = 1
signal_number (Wire w) = w + 2

-- the number of a demand
abbrev pub demand_number : Demand → ℕ
demand_number Demanded.Dead = 0
demand_number Demanded.Live = 1
demand_number Demanded.Any = 2
demand_number (Demanded.Wire w) = w + 3

-- a list of the signal's number alone
abbrev pub signal_numbers : Signal → List ℕ
signal_numbers s = signal_number s ∷ []

-- nothing for a cell with the number 0; for any other one its place plus one, and then the number
abbrev pub sparse_entry : ℕ → ℕ → List ℕ
sparse_entry place n = if nat_eq n 0 then [] else ((place + 1) ∷ n ∷ [])

-- the entries of cells with these numbers, if the first cell has this place
unfoldable pub sparse_entries_from : ℕ → List ℕ → List ℕ
sparse_entries_from place [] = []
sparse_entries_from place (n ∷ ns) = sparse_entry place n ++ sparse_entries_from (place + 1) ns

-- how many cells there are, their entries, and a 0
abbrev pub sparse_list_numbers : {A : Type 0} → (A → ℕ) → List A → List ℕ
sparse_list_numbers number cells = length cells ∷ sparse_entries_from 0 (map number cells) ++ 0 ∷ []

-- 0, -1, 1, -2 and so on, counted from 0
abbrev pub zigzag_number : ℤ → ℕ
zigzag_number (pos n) = 2 * n
zigzag_number (negsuc n) = 2 * n + 1

-- the numbers of a cell
abbrev pub cell_numbers : Cell → List ℕ
cell_numbers c = zigzag_number c.x ∷ zigzag_number c.y ∷ []

-- the numbers of a signal at all times
abbrev pub all_times_numbers : AllTimesSignal → List ℕ
all_times_numbers h = cell_numbers h.cell ++ signal_numbers h.signal

-- the numbers of an event
abbrev pub event_numbers : TimedSignal → List ℕ
event_numbers e = (e.at.time ∷ cell_numbers e.at.cell) ++ signal_numbers e.signal

-- the numbers of a stop
abbrev pub stop_numbers : Stop → List ℕ
stop_numbers s = (s.at.time ∷ cell_numbers s.at.cell) ++ s.wire ∷ []

-- the numbers of a schedule
abbrev pub signals_numbers : Signals → List ℕ
signals_numbers s = length_prefixed all_times_numbers s.all_times ++ length_prefixed event_numbers s.events

-- Gates, sides and steps, starts, demands, edges, halos, stops and kept gates: all of the shape. Most cells are dead at
-- the start and to be dead at the end, so starts and demands have entries for the other cells alone.
unfoldable pub shape_numbers : ShapeView → List ℕ
shape_numbers s =
    netlist_numbers s.netlist ++ (s.width ∷ s.height ∷ s.steps ∷ [])
    ++ sparse_list_numbers signal_number s.starts ++ sparse_list_numbers demand_number s.demands
    ++ signals_numbers s.edges ++ signals_numbers s.halos ++ length_prefixed stop_numbers s.stops
    ++ (length s.kept ∷ s.kept)

-- A number below 2 ^ 64: one byte, or two or eight behind a byte that says so
abbrev pub compact_number_bytes : ℕ → List ℕ
compact_number_bytes n = if nat_lt n 254 then n
    ∷ [] else (if nat_lt n 65536 then 254 ∷ to_le_bytes w16 n else 255 ∷ to_le_bytes w64 n)

-- the key of a shape
abbrev pub shape_digest : ShapeView → List ℕ
shape_digest s = sha256 (flat_map compact_number_bytes (shape_numbers s))

-- ---- laws: different shapes have different numbers, and different numbers different bytes
-- Two shapes with the same numbers are the same, also if more numbers follow.
abbrev pub NumbersDetermineShapes : Type 0
NumbersDetermineShapes = IsPrefixFree shape_numbers

-- Two lists of numbers with the same bytes are the same.
abbrev pub BytesDetermineNumbers : Type 0
BytesDetermineNumbers = (ns ms : List ℕ) → All (λ n. n < 2 ^ 64) ns → All (λ n. n < 2 ^ 64) ms →
    flat_map compact_number_bytes ns ≡ flat_map compact_number_bytes ms → ns ≡ ms
