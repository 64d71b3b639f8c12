-- Tables of the times at which wires are seen, and which of two times is kept
use Rattle.std.specs.Prelude.{◌≡◌, ℕ, List, Option, None, slice_index_or}
use Rattle.std.specs.List.{fold}
use Rattle.circuit.specs.Meaning.{Circuit}
use Rattle.certificate.specs.Times.{earlier, later, stop_times_of_wire}
use Rattle.certificate_lines.specs.declared.certificate_line.StopLine.{StopLine}
use Rattle.certificate.specs.declared.times.FirstOrLast.{FirstOrLast}
use Rattle.certificate.specs.declared.times.FirstOrLast.TheVariants.{First, Last}

-- the time that is kept: the earlier one for first stops, the later one for last stops
abbrev pub chosen_time : FirstOrLast → Option ℕ → ℕ → Option ℕ
chosen_time First before t = earlier before t
chosen_time Last before t = later before t

-- the first or the last time of a wire
abbrev pub seen_time : FirstOrLast → Circuit → List StopLine → ℕ → Option ℕ
seen_time choice c ss w = fold (chosen_time choice) None (stop_times_of_wire c ss w)

-- what a table says of a wire
abbrev pub time_in_table : List (Option ℕ) → ℕ → Option ℕ
time_in_table table w = slice_index_or table w None

-- the table has these times, by the number of the wire
abbrev pub IsStopTimeTable : FirstOrLast → Circuit → List StopLine → List (Option ℕ) → Type 0
IsStopTimeTable choice c ss table = (w : ℕ) → time_in_table table w ≡ seen_time choice c ss w
