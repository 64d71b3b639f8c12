-- Laws of the circuit section.
use Rattle.std.specs.Prelude.{◌≡◌, ℕ, ◌+◌, ◌<◌, ◌&&◌, ◌||◌, Bool, List, length, map, take, drop, None, Some, Ok}
use Rattle.std.specs.Prelude.{IsTrue, nat_le, nat_lt, slice_get}
use Rattle.section_text.specs.Words.{lines_of}
use Rattle.circuit.specs.declared.circuit_line.GateKind.{GateKind}
use Rattle.circuit.specs.declared.circuit_line.GateKind.TheVariants.{Source, Switch, Unswitch, Interact, Uninteract}
use Rattle.circuit.specs.Gates.{is_inverse, row}
use Rattle.std.specs.List.{count_by, flat_map, range_with_len}
use Rattle.circuit.specs.Entries.{defined}
use Rattle.section_text.specs.Section.{section_of, with_line_feed}
use Rattle.circuit.specs.declared.circuit_line.CircuitLine.{CircuitLine}
use Rattle.circuit.specs.Grammars.{circuit_grammar}
use Rattle.section_text.specs.declared.limits.Limits.{Limits}
use Rattle.circuit.specs.Text.{circuit_text}
use Rattle.circuit.specs.Meaning.{Netlist, Valuation, Satisfies, AreGatesOrdered, AreNonInverse, IsFirstGateWithoutRow}
use Rattle.circuit.specs.Meaning.{wires, wire_of}
use Rattle.circuit.specs.Bridge.{AreGoodCircuitLines, AreWireValues, ValuesStopAt, input_count, input_names, gates_of}
use Rattle.circuit.specs.Bridge.{circuit_of, netlist_of}
use Rattle.circuit.specs.Rules.{gate_count, is_gate, is_wrong_delay, limit_or_name_code_within, name_fault}
use Rattle.section_text.specs.Codes.{code_if, or_else}
use Rattle.section_text.specs.declared.code.RefusalCode.TheVariants.{PastLimit}
use Rattle.section_text.specs.declared.limits.Limits.TheVariants.{First, Second}

-- the text of a circuit that is read is the text of the lines that it is read from
abbrev pub PrintsWhatIsRead : Type 0
PrintsWhatIsRead = (l : Limits) (n : ℕ) (ls : List (List ℕ)) (entries : List CircuitLine) →
    section_of (circuit_grammar l) n ls ≡ Ok (tt, entries) →
    flat_map with_line_feed (take (length entries + 2) ls) ≡ circuit_text entries

-- and it is read as the same circuit again, wherever it is
abbrev pub ReadsWhatIsPrinted : Type 0
ReadsWhatIsPrinted = (l : Limits) (text : List ℕ) (from n m : ℕ) (entries : List CircuitLine) →
    section_of (circuit_grammar l) n (drop from (lines_of text)) ≡ Ok (tt, entries) →
    section_of (circuit_grammar l) m (lines_of (circuit_text entries)) ≡ Ok (tt, entries)

-- the gates of a good list of lines are ordered
abbrev pub GatesAreOrdered : Type 0
GatesAreOrdered = (entries : List CircuitLine) → AreGoodCircuitLines entries →
    AreGatesOrdered (input_count entries) (gates_of (defined entries) entries)

-- ordered gates have a valuation if none of them is undefined
abbrev pub HasValuationIfDefined : Type 0
HasValuationIfDefined = (n : Netlist) (a : Valuation) → AreGatesOrdered n.given n.gates →
    ((k : ℕ) → ¬ IsFirstGateWithoutRow n a k) →
    (v : Valuation) × Satisfies n a v

-- and only there
abbrev pub UndefinedHasNoValuation : Type 0
UndefinedHasNoValuation = (n : Netlist) (a v : Valuation) (k : ℕ) → AreGatesOrdered n.given n.gates →
    IsFirstGateWithoutRow n a k →
    ¬ Satisfies n a v

-- only an inverse gate is undefined
abbrev pub OnlyInverseGatesAreUndefined : Type 0
OnlyInverseGatesAreUndefined =
    (n : Netlist) (a : Valuation) (k : ℕ) → AreGatesOrdered n.given n.gates → (u : IsFirstGateWithoutRow n a k) →
    IsTrue (is_inverse u.gate.kind)

-- at most one gate is
abbrev pub AtMostOneGateIsUndefined : Type 0
AtMostOneGateIsUndefined = (n : Netlist) (a : Valuation) (k m : ℕ) → AreGatesOrdered n.given n.gates →
    IsFirstGateWithoutRow n a k →
    IsFirstGateWithoutRow n a m → k ≡ m

-- a gate at which the values stop is undefined
abbrev pub ValuesStopAtUndefinedGate : Type 0
ValuesStopAtUndefinedGate = (n : Netlist) (a : Valuation) (k : ℕ) (vs : List Bool) → ValuesStopAt n a k vs →
    IsFirstGateWithoutRow n a k

-- ordered gates have at most one, with inverse gates too
abbrev pub HasAtMostOneValuation : Type 0
HasAtMostOneValuation = (n : Netlist) (a u v : Valuation) → AreGatesOrdered n.given n.gates → Satisfies n a u →
    Satisfies n a v → (w : ℕ) → w < wires n → u w ≡ v w

-- a circuit of good lines without inverse gates has one valuation, whatever its inputs are
abbrev pub NoninverseHasOneValuation : Type 0
NoninverseHasOneValuation = (entries : List CircuitLine) (a : Valuation) → AreGoodCircuitLines entries →
    AreNonInverse (netlist_of entries).gates →
    (v : Valuation) × Satisfies (netlist_of entries) a v
    × ((u : Valuation) → Satisfies (netlist_of entries) a u → (w : ℕ) → w < wires (netlist_of entries) → u w ≡ v w)

-- what lists the values lists them of every valuation that satisfies the netlist
abbrev pub ValuesAreTheValuation : Type 0
ValuesAreTheValuation = (n : Netlist) (a v : Valuation) (vs : List Bool) → AreWireValues n a vs → Satisfies n a v →
    map v (range_with_len 0 (wires n)) ≡ vs

-- the wires of a circuit have names of their own: the wire of the name of a wire is that wire
abbrev pub WireNamesAreDistinct : Type 0
WireNamesAreDistinct = (entries : List CircuitLine) (w : ℕ) (name : List ℕ) → AreGoodCircuitLines entries →
    slice_get (defined entries) w ≡ Some name → wire_of (circuit_of entries) name ≡ Some w

-- each wire has a name
abbrev pub WiresAreNamed : Type 0
WiresAreNamed = (entries : List CircuitLine) → AreGoodCircuitLines entries →
    length (defined entries) ≡ wires (netlist_of entries)

-- the inputs are the first wires
abbrev pub InputsAreFirst : Type 0
InputsAreFirst = (entries : List CircuitLine) → AreGoodCircuitLines entries →
    take (input_count entries) (defined entries) ≡ input_names entries

-- how many of the bits are true
abbrev pub ones : List Bool → ℕ
ones bits = count_by (λ b. b) bits

-- conservative logic: every gate but a source keeps the number of ones
abbrev pub GatesKeepOnes : Type 0
GatesKeepOnes = (kind : GateKind) (ins outs : List Bool) → ((b : Bool) → kind ≡ Source b → ⊥) →
    row kind ins ≡ Some outs → ones outs ≡ ones ins

-- one gate turns back what another does, and has no row but for that
pub record Undoes (gate inverse : GateKind) : Type 0 where
  pub undone : (ins outs : List Bool) → row gate ins ≡ Some outs → row inverse outs ≡ Some ins
  pub only : (ins outs : List Bool) → row inverse ins ≡ Some outs → row gate outs ≡ Some ins

-- `unswitch` undoes `switch`, and `uninteract` undoes `interact`
pub record InverseGatesUndo : Type 0 where
  pub switch : Undoes Switch Unswitch
  pub interact : Undoes Interact Uninteract

-- ---- limits

-- With the first limits a line is tested as in a text without the line `limits 2`: a delay of 1 to 4096, at most 4096
-- wires and 1024 gates, and then the names.
abbrev pub FirstLimitsAreUnchanged : Type 0
FirstLimitsAreUnchanged = (entries : List CircuitLine) (r : CircuitLine) →
    limit_or_name_code_within First entries r ≡ or_else (code_if (is_wrong_delay r.kind
    || (nat_lt 4096 (length (defined entries) + length r.outs) || (is_gate r.kind && nat_le 1024 (gate_count entries))))
    PastLimit) (name_fault entries r)

-- a line that passes the first limits passes the second ones
abbrev pub SecondLimitsAreWider : Type 0
SecondLimitsAreWider = (entries : List CircuitLine) (r : CircuitLine) →
    limit_or_name_code_within First entries r ≡ None →
    limit_or_name_code_within Second entries r ≡ None
