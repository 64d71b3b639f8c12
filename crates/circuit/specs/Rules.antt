-- The rules on which line is good after which lines. They read from the lines themselves what is defined and consumed.
use Rattle.std.specs.Prelude.{ℕ, ◌+◌, Bool, true, false, ◌&&◌, ◌||◌, List, [], ◌∷◌, ◌++◌, length, Option, Some, None}
use Rattle.std.specs.Prelude.{nat_lt, nat_le, ◌==◌, if◌then◌else◌}
use Rattle.std.specs.List.{flat_map, count_by}
use Rattle.circuit.specs.declared.circuit_line.GateKind.TheVariants.{Cswap, Delay, Fredkin, Interact, Source, Switch}
use Rattle.circuit.specs.declared.circuit_line.GateKind.TheVariants.{Uninteract, Unswitch}
use Rattle.circuit.specs.declared.circuit_line.CircuitLineKind.{CircuitLineKind}
use Rattle.circuit.specs.declared.circuit_line.CircuitLineKind.TheVariants.{Input, Gate, Output, Spill}
use Rattle.circuit.specs.declared.circuit_line.CircuitLine.{CircuitLine}
use Rattle.section_text.specs.Words.{has}
use Rattle.section_text.specs.Codes.{code_if, or_else}
use Rattle.section_text.specs.Limits.{most_gates, most_wires}
use Rattle.section_text.specs.declared.limits.Limits.{Limits}
use Rattle.circuit.specs.Entries.{defined, rank_of}
use Rattle.section_text.specs.declared.code.RefusalCode.{RefusalCode}
use Rattle.section_text.specs.declared.code.RefusalCode.TheVariants.{PastLimit, UnknownName, DefinedTwice}
use Rattle.section_text.specs.declared.code.RefusalCode.TheVariants.{ConsumedTwice, OutOfOrder}
use Rattle.lemmas.specs.Bounds.{max_gates, max_wires}

-- the wires that lines consume, in order
abbrev pub consumed : List CircuitLine → List (List ℕ)
consumed entries = flat_map (λ r. r.ins) entries

-- whether the line is a gate
abbrev pub is_gate : CircuitLineKind → Bool
is_gate (Gate k) = true
is_gate _ = false

-- how many gates there are, sources among them
abbrev pub gate_count : List CircuitLine → ℕ
gate_count entries = count_by (λ r. is_gate r.kind) entries

-- ---- codes 3, 4 and 5, from left to right; a line's own names count as they are passed

-- the names are consumed one after the other, with d defined and c consumed before
abbrev pub consume_fault : List (List ℕ) → List (List ℕ) → List (List ℕ) → Option RefusalCode
consume_fault d c [] = None
consume_fault d c (n ∷ ns) = if has d n then
    (if has c n then Some ConsumedTwice else consume_fault d (c ++ n ∷ []) ns) else Some UnknownName

-- the names are defined one after the other, with d defined before
abbrev pub define_fault : List (List ℕ) → List (List ℕ) → Option RefusalCode
define_fault d [] = None
define_fault d (n ∷ ns) = if has d n then Some DefinedTwice else define_fault (d ++ n ∷ []) ns

-- the code of the first wire that the line may not consume, else of the first that it may not define
abbrev pub name_fault : List CircuitLine → CircuitLine → Option RefusalCode
name_fault entries r = or_else (consume_fault (defined entries) (consumed entries) r.ins)
    (define_fault (defined entries) r.outs)

-- ---- code 2

-- whether the line is a delay of no steps or of more than 4096
abbrev pub is_wrong_delay : CircuitLineKind → Bool
is_wrong_delay Input = false
is_wrong_delay (Gate (Source b)) = false
is_wrong_delay (Gate Fredkin) = false
is_wrong_delay (Gate Cswap) = false
is_wrong_delay (Gate Interact) = false
is_wrong_delay (Gate Switch) = false
is_wrong_delay (Gate (Delay n)) = n == 0 || nat_lt 4096 n
is_wrong_delay (Gate Unswitch) = false
is_wrong_delay (Gate Uninteract) = false
is_wrong_delay Output = false
is_wrong_delay Spill = false

-- whether a delay, the count of wires or the count of gates is outside the largest limits
abbrev pub exceeds_largest_limit : List CircuitLine → CircuitLine → Bool
exceeds_largest_limit entries r = is_wrong_delay r.kind
    || (nat_lt max_wires (length (defined entries) + length r.outs)
    || (is_gate r.kind && nat_le max_gates (gate_count entries)))

-- whether the count of wires or the count of gates is outside these limits
abbrev pub exceeds_text_limit : Limits → List CircuitLine → CircuitLine → Bool
exceeds_text_limit l entries r = nat_lt (most_wires l) (length (defined entries) + length r.outs)
    || (is_gate r.kind && nat_le (most_gates l) (gate_count entries))

-- the code of a line outside the largest limits
abbrev pub largest_limit_code : List CircuitLine → CircuitLine → Option RefusalCode
largest_limit_code entries r = code_if (exceeds_largest_limit entries r) PastLimit

-- the first of codes 2 to 5, for the largest limits
unfoldable pub limit_or_name_code : List CircuitLine → CircuitLine → Option RefusalCode
limit_or_name_code entries r = or_else (largest_limit_code entries r) (name_fault entries r)

-- the first of codes 2 to 5, for these limits
abbrev pub limit_or_name_code_within : Limits → List CircuitLine → CircuitLine → Option RefusalCode
limit_or_name_code_within l entries r =
    or_else (code_if (exceeds_text_limit l entries r) PastLimit) (limit_or_name_code entries r)

-- ---- codes 6 and 11

-- the rank of the last line, or 0
abbrev pub last_rank : List CircuitLine → ℕ
last_rank [] = 0
last_rank (r ∷ []) = rank_of r.kind
last_rank (r ∷ s ∷ entries) = last_rank (s ∷ entries)

-- the code of a line of an earlier kind than the last one
abbrev pub order_fault : List CircuitLine → CircuitLine → Option RefusalCode
order_fault entries r = code_if (nat_lt (rank_of r.kind) (last_rank entries)) OutOfOrder

-- the first wire that nobody consumes
abbrev pub first_unconsumed : List (List ℕ) → List (List ℕ) → Option (List ℕ)
first_unconsumed c [] = None
first_unconsumed c (n ∷ ns) = if has c n then first_unconsumed c ns else Some n
