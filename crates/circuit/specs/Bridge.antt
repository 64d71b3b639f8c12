-- From the lines of a circuit, by names, to its gates, by the numbers of wires.
use Rattle.std.specs.Prelude.{◌≡◌, ℕ, ◌<◌, Bool, true, false, if◌then◌else◌, List, [], ◌∷◌, ◌++◌, map, length, None}
use Rattle.std.specs.Prelude.{Some, ⊤, slice_get, slice_index_or}
use Rattle.std.specs.List.{flat_map, count_by}
use Rattle.circuit.specs.Entries.{defined}
use Rattle.circuit.specs.declared.circuit_line.CircuitLineKind.{CircuitLineKind}
use Rattle.circuit.specs.declared.circuit_line.CircuitLineKind.TheVariants.{Gate as GateLine, Input, Output, Spill}
use Rattle.circuit.specs.declared.circuit_line.CircuitLine.{CircuitLine}
use Rattle.circuit.specs.declared.netlist.ValuesFault.{ValuesFault}
use Rattle.circuit.specs.declared.netlist.ValuesFault.TheVariants.{OutOfDomain, Memory}
use Rattle.circuit.specs.Gates.{row, uses, defines}
use Rattle.circuit.specs.Rules.{gate_count, limit_or_name_code}
use Rattle.circuit.specs.Meaning.{Gate, Netlist, Circuit, Valuation, Satisfies, first_gates, number, wires}

-- whether the line is an input
abbrev pub is_input : CircuitLineKind → Bool
is_input Input = true
is_input _ = false

-- how many inputs there are
abbrev pub input_count : List CircuitLine → ℕ
input_count entries = count_by (λ r. is_input r.kind) entries

-- the gate of a line, if the wires have these names
abbrev pub gate_of_line_kind : List (List ℕ) → List (List ℕ) → List (List ℕ) → CircuitLineKind → List Gate
gate_of_line_kind names ins outs (GateLine k) =
    record { kind = k; ins = map (number names) ins; outs = map (number names) outs } ∷ []
gate_of_line_kind names ins outs _ = []

-- the gates of lines, over the numbers of names
abbrev pub gates_of : List (List ℕ) → List CircuitLine → List Gate
gates_of names entries = flat_map (λ r. gate_of_line_kind names r.ins r.outs r.kind) entries

-- the gates of a circuit, over its inputs
abbrev pub netlist_of : List CircuitLine → Netlist
netlist_of entries = record { given = input_count entries; gates = gates_of (defined entries) entries }

-- the circuit of lines
abbrev pub circuit_of : List CircuitLine → Circuit
circuit_of entries = record { netlist = netlist_of entries; names = defined entries }

-- the names of the inputs, in the order of their lines
abbrev pub input_names : List CircuitLine → List (List ℕ)
input_names entries = flat_map (λ r. if is_input r.kind then r.outs else []) entries

-- whether the line is an output
abbrev pub is_output : CircuitLineKind → Bool
is_output Output = true
is_output _ = false

-- the names of the outputs, in the order of their lines
abbrev pub output_names : List CircuitLine → List (List ℕ)
output_names entries = flat_map (λ r. if is_output r.kind then r.ins else []) entries

-- ---- which lines make a circuit
-- how many wires a line of a kind consumes
abbrev pub kind_in_count : CircuitLineKind → ℕ
kind_in_count Input = 0
kind_in_count (GateLine k) = uses k
kind_in_count Output = 1
kind_in_count Spill = 1

-- how many wires a line of a kind defines
abbrev pub kind_out_count : CircuitLineKind → ℕ
kind_out_count Input = 1
kind_out_count (GateLine k) = defines k
kind_out_count Output = 0
kind_out_count Spill = 0

-- the line has as many names as its kind
abbrev pub HasNameCountOfKind : CircuitLine → Type 0
HasNameCountOfKind r = (length r.ins ≡ kind_in_count r.kind) × (length r.outs ≡ kind_out_count r.kind)

-- no input comes after a gate
abbrev pub IsNoInputAfterGate : List CircuitLine → CircuitLine → Type 0
IsNoInputAfterGate before r = is_input r.kind ≡ true → gate_count before ≡ 0

-- the line is good after those before it
pub record IsGoodAfter (before : List CircuitLine) (r : CircuitLine) : Type 0 where
  pub adds : limit_or_name_code before r ≡ None
  pub fits : HasNameCountOfKind r
  pub inputs_first : IsNoInputAfterGate before r

-- each line is good after those before it
unfoldable pub AreGoodAfter : List CircuitLine → List CircuitLine → Type 0
AreGoodAfter before [] = ⊤
AreGoodAfter before (r ∷ rest) = IsGoodAfter before r × AreGoodAfter (before ++ r ∷ []) rest

-- each line is good after those before it
abbrev pub AreGoodCircuitLines : List CircuitLine → Type 0
AreGoodCircuitLines entries = AreGoodAfter [] entries

-- the values of wires that are listed, and false for all others
abbrev pub as_values : List Bool → Valuation
as_values vs w = slice_index_or vs w false

-- vs lists each wire's value in the one valuation that satisfies the netlist if the given wires have the values a
pub record AreWireValues (n : Netlist) (a : Valuation) (vs : List Bool) : Type 0 where
  pub all : length vs ≡ wires n
  pub satisfies : Satisfies n a (as_values vs)
  pub only : (v : Valuation) → Satisfies n a v → (w : ℕ) → w < length vs → v w ≡ as_values vs w

-- Gate k has no row if the given wires have the values a. vs lists the values of the wires that are defined before it.
pub record ValuesStopAt (n : Netlist) (a : Valuation) (k : ℕ) (vs : List Bool) : Type 0 where
  pub gate : Gate
  pub numbered : slice_get n.gates k ≡ Some gate
  pub before : AreWireValues (first_gates k n) a vs
  pub none : row gate.kind (map (as_values vs) gate.ins) ≡ None

-- the reason why there are no values: a gate without a row, or out of memory, about which it says no more
abbrev pub IsValuesFault : Netlist → Valuation → ValuesFault → Type 0
IsValuesFault n a (OutOfDomain k vs) = ValuesStopAt n a k vs.items
IsValuesFault n a Memory = Unit {0}
