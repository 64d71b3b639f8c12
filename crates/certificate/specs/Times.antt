-- The times at which stops see wires, and what they say of delays and of gates whose inputs must meet
use Rattle.std.specs.Prelude.{ℕ, ◌+◌, ◌-◌, ◌==◌, Bool, true, false, if◌then◌else◌, List, [], ◌∷◌, ◌++◌, length, Option}
use Rattle.std.specs.Prelude.{Some, None, nat_lt, nat_le, min, max, nat_eq}
use Rattle.std.specs.List.{fold, flat_map, list_all}
use Rattle.std.specs.Option.{option_to_list, option_eq}
use Rattle.circuit.specs.declared.circuit_line.GateKind.{GateKind}
use Rattle.circuit.specs.declared.circuit_line.GateKind.TheVariants.{Delay}
use Rattle.circuit.specs.Meaning.{Circuit, Gate, wire_of}
use Rattle.certificate_lines.specs.Entries.{ModuleLines, stops}
use Rattle.certificate_lines.specs.declared.certificate_line.StopLine.{StopLine}
use Rattle.certificate.specs.declared.times.StopGap.{StopGap}
use Rattle.certificate.specs.declared.times.StopGap.TheVariants.{Steps, Missing, Before}
use Rattle.certificate.specs.declared.times.TimeLine.{TimeLine}
use Rattle.certificate.specs.declared.times.TimeLine.TheVariants as line

-- the stops of all modules
abbrev pub all_stops : List ModuleLines → List StopLine
all_stops ms = flat_map stops ms

-- ---- when a wire is seen

-- whether a stop is one of wire w
abbrev pub is_stop_of_wire : Circuit → ℕ → StopLine → Bool
is_stop_of_wire c w s = option_eq nat_eq (wire_of c s.wire) (Some w)

-- the times of the stops of wire w
abbrev pub stop_times_of_wire : Circuit → List StopLine → ℕ → List ℕ
stop_times_of_wire c ss w = flat_map (λ s. if is_stop_of_wire c w s then s.time ∷ [] else []) ss

-- the lesser of a time and the least before it, and the greater
abbrev pub earlier : Option ℕ → ℕ → Option ℕ
earlier None t = Some t
earlier (Some s) t = Some (min s t)

-- the later of two times, of which the first may be missing
abbrev pub later : Option ℕ → ℕ → Option ℕ
later None t = Some t
later (Some s) t = Some (max s t)

-- the least and the greatest time among the stops of a wire, if it has any
abbrev pub first_seen_time : Circuit → List StopLine → ℕ → Option ℕ
first_seen_time c ss w = fold earlier None (stop_times_of_wire c ss w)

-- the last time at which stops see a wire, if one does
abbrev pub last_seen_time : Circuit → List StopLine → ℕ → Option ℕ
last_seen_time c ss w = fold later None (stop_times_of_wire c ss w)

-- ---- delays

-- from the last time of one wire to the first time of another
abbrev pub gap_between : Option ℕ → Option ℕ → StopGap
gap_between None first = Missing
gap_between (Some last) None = Missing
gap_between (Some last) (Some first) = if nat_lt first last then Before else Steps (first - last)

-- the time of the first of these wires
abbrev pub first_wire_time : (ℕ → Option ℕ) → List ℕ → Option ℕ
first_wire_time seen [] = None
first_wire_time seen (w ∷ ws) = seen w

-- the line for a gate that is a delay, and none for another gate
abbrev pub delay_line_of_kind : ℕ → GateKind → StopGap → List TimeLine
delay_line_of_kind k (Delay n) gap = line.Delay k n gap ∷ []
delay_line_of_kind k _ gap = []

-- the line of gate k, if it is a delay: from the last time of the wire that it uses to the first time of the one that
-- it defines
abbrev pub delay_line : (first last : ℕ → Option ℕ) → ℕ → Gate → List TimeLine
delay_line first last k g = delay_line_of_kind k g.kind
    (gap_between (first_wire_time last g.ins) (first_wire_time first g.outs))

-- ---- meetings

-- the last times of those wires that have one
abbrev pub last_times : (ℕ → Option ℕ) → List ℕ → List ℕ
last_times last ws = flat_map (λ w. option_to_list (last w)) ws

-- the time that all of them are
abbrev pub common_time : List ℕ → Option ℕ
common_time [] = None
common_time (t ∷ ts) = if list_all (λ u. u == t) ts then Some t else None

-- the line for a gate of which two inputs or more have stops, by their last times
abbrev pub meet_line_of_times : ℕ → List ℕ → List TimeLine
meet_line_of_times k ts = if nat_le 2 (length ts) then line.Meet k (common_time ts) ∷ [] else []

-- the line of gate k, if two of the wires that it uses have a last time, or more: the one time at which all of these
-- are seen last
abbrev pub meet_line : (ℕ → Option ℕ) → ℕ → Gate → List TimeLine
meet_line last k g = meet_line_of_times k (last_times last g.ins)

-- ---- all lines

-- the lines of gates, which are numbered from k on
unfoldable pub lines_of_numbered_gates : (ℕ → Gate → List TimeLine) → ℕ → List Gate → List TimeLine
lines_of_numbered_gates f k [] = []
lines_of_numbered_gates f k (g ∷ gs) = f k g ++ lines_of_numbered_gates f (k + 1) gs

-- those of all delays, and then those of all meetings
abbrev pub time_lines_of_gates : (first last : ℕ → Option ℕ) → List Gate → List TimeLine
time_lines_of_gates first last gates =
    lines_of_numbered_gates (delay_line first last) 0 gates ++ lines_of_numbered_gates (meet_line last) 0 gates

-- by the stops of all modules
abbrev pub delay_and_meet_lines : Circuit → List ModuleLines → List TimeLine
delay_and_meet_lines c ms = time_lines_of_gates (first_seen_time c (all_stops ms))
    (last_seen_time c (all_stops ms)) c.netlist.gates

-- ---- the rules

-- a delay takes as many steps as it says, and inputs meet at one time
abbrev pub is_timing_obeyed : TimeLine → Bool
is_timing_obeyed (line.Delay k n (Steps m)) = m == n
is_timing_obeyed (line.Delay k n Missing) = false
is_timing_obeyed (line.Delay k n Before) = false
is_timing_obeyed (line.Meet k (Some t)) = true
is_timing_obeyed (line.Meet k None) = false

-- each line of a certificate says so
abbrev pub are_all_timings_obeyed : List TimeLine → Bool
are_all_timings_obeyed lines = list_all is_timing_obeyed lines
