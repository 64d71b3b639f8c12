-- The values of the wires that a module knows
use Rattle.std.specs.Prelude.{◌≡◌, ◌==◌, ◌<◌, ◌↔◌, ℕ, ◌+◌, ◌*◌, ◌/◌, ◌%◌, Bool, true, false, List, [], ◌∷◌, map, length}
use Rattle.std.specs.Prelude.{Option, Some, None, slice_index, slice_index_or, bit_and, bit_or, bit_xor}
use Rattle.bbm_rule.specs.Bits.{bit}
use Rattle.circuit.specs.declared.circuit_line.GateKind.{GateKind}
use Rattle.circuit.specs.declared.circuit_line.GateKind.TheVariants.{Cswap, Delay, Fredkin, Interact, Source, Switch}
use Rattle.circuit.specs.declared.circuit_line.GateKind.TheVariants.{Uninteract, Unswitch}
use Rattle.circuit.specs.Gates.{row, defines}
use Rattle.circuit.specs.Meaning.{Gate, Netlist, Valuation, Satisfies, IsFirstGateWithoutRow, wires}
use Rattle.circuit.specs.Bridge.{AreWireValues, as_values}
use Rattle.circuit.specs.Evaluate.{evaluate, first_undefined_gate}
use Rattle.module_box.specs.declared.values.LocalValuesError.{LocalValuesError}
use Rattle.module_box.specs.declared.values.LocalValuesError.TheVariants.{NoRow, Memory}
use Rattle.module_box.specs.declared.values.ValueRows.{ValueRows}
use Rattle.module_box.specs.Locals.{LocalNet, circuit_wire}

-- the local valuations of a module under an assignment: cut i has the value of bit i, and the outputs of the gates
-- follow by their rows
abbrev pub IsLocalValuation : LocalNet → ℕ → Valuation → Type 0
IsLocalValuation l cut_bits v = Satisfies l.netlist (bit cut_bits) v

-- under an assignment the gate at place k among those that the module uses is the first that has no row
abbrev pub IsFirstLocalGateWithoutRow : LocalNet → ℕ → ℕ → Type 0
IsFirstLocalGateWithoutRow l cut_bits k = IsFirstGateWithoutRow l.netlist (bit cut_bits) k

-- the values of the circuit's wires, by the numbers that they have in the module
abbrev pub values_by_local_number : LocalNet → Valuation → Valuation
values_by_local_number l v i = v (circuit_wire l i)

-- the reason why there are no local values: a gate without a row, or out of memory, about which it says no more
abbrev pub IsLocalValuesError : Netlist → ℕ → LocalValuesError → Type 0
IsLocalValuesError n cut_bits (NoRow k) = IsFirstGateWithoutRow n (bit cut_bits) k
IsLocalValuesError n cut_bits Memory = Unit {0}

-- the value of wire w under assignment a, in rows of words: a row for each wire, a word for 64 assignments
unfoldable pub value_of : ℕ → List ℕ → ℕ → Valuation
value_of words rows a w = bit (slice_index rows (words * w + a / 64)) (a % 64)

-- the bit of assignment a in a row of words
unfoldable pub bit_of_row : List ℕ → ℕ → Bool
bit_of_row row a = bit (slice_index row (a / 64)) (a % 64)

-- If the bit of an assignment is set, the values are a local valuation. Else some gate is the first that has no row,
-- and its row of words has the bit.
pub record AreValueRowsAt (n : Netlist) (words a : ℕ) (values lacking whole : List ℕ) : Type 0 where
  pub local : bit_of_row whole a ≡ true → Satisfies n (bit a) (value_of words values a)
  pub undefined : (k : ℕ) → k < length n.gates → (value_of words lacking a k ≡ true) ↔ IsFirstGateWithoutRow n (bit a) k
  pub none : bit_of_row whole a ≡ false → (k : ℕ) × IsFirstGateWithoutRow n (bit a) k

-- the values of all wires under 64 times `words` assignments, and the gates without a row, in rows of `words` words
pub record AreValueRows (n : Netlist) (words : ℕ) (rows : ValueRows) : Type 0 where
  pub long : length rows.values.items ≡ words * wires n
  pub tall : length rows.undefined.items ≡ words * length n.gates
  pub wide : length rows.defined.items ≡ words
  pub each : (a : ℕ) → a < 64 * words →
      AreValueRowsAt n words a rows.values.items rows.undefined.items rows.defined.items

-- ---- words that have a bit for each of 64 assignments

-- the values at bit b of words
abbrev pub lane : ℕ → List ℕ → List Bool
lane b ws = map (λ word. bit word b) ws

-- The words of the wires that a gate defines, from the words of those that it uses. At bits where it has no row they
-- say nothing.
abbrev pub gate_out_words : GateKind → ℕ → ℕ → ℕ → ℕ → List ℕ
gate_out_words (Source true) a b c d = 18446744073709551615 ∷ []
gate_out_words (Source false) a b c d = 0 ∷ []
gate_out_words Fredkin a b c d = a ∷ bit_xor c (bit_and a (bit_xor b c)) ∷ bit_xor b (bit_and a (bit_xor b c)) ∷ []
gate_out_words Cswap a b c d = a ∷ bit_xor b (bit_and a (bit_xor b c)) ∷ bit_xor c (bit_and a (bit_xor b c)) ∷ []
gate_out_words Interact a b c d = bit_and a b ∷ bit_xor b (bit_and a b) ∷ bit_xor a (bit_and a b) ∷ bit_and a b ∷ []
gate_out_words Switch a b c d = a ∷ bit_and a b ∷ bit_xor b (bit_and a b) ∷ []
gate_out_words (Delay n) a b c d = a ∷ []
gate_out_words Unswitch a b c d = a ∷ bit_or b c ∷ []
gate_out_words Uninteract a b c d = bit_or a c ∷ bit_or a b ∷ []

-- the bits at which a gate has no row
abbrev pub undefined_bits : GateKind → ℕ → ℕ → ℕ → ℕ → ℕ
undefined_bits Unswitch a b c d = bit_xor b (bit_and a (bit_xor b c))
undefined_bits Uninteract a b c d = bit_or (bit_xor a d) (bit_or (bit_and a (bit_or b c)) (bit_and b c))
undefined_bits _ a b c d = 0

-- a row where the bit is false
abbrev pub row_unless_undefined : Bool → List Bool → Option (List Bool)
row_unless_undefined true r = None
row_unless_undefined false r = Some r

-- the word of the wire at a place of ins
abbrev pub word_of_input : List ℕ → List ℕ → ℕ → ℕ
word_of_input words ins place = slice_index_or words (slice_index_or ins place 0) 0

-- a gate is done: the words of its outputs are added, but at the bits of `none`, where it has no row
pub record AddsOutWords (g : Gate) (old new : List ℕ) (none : ℕ) : Type 0 where
  pub long : length new ≡ length old + defines g.kind
  pub has : (b : ℕ) → b < 64 → bit none b ≡ false → evaluate (lane b old) (g ∷ []) ≡ Some (lane b new)
  pub lacks : (b : ℕ) → b < 64 → bit none b ≡ true → row g.kind (map (as_values (lane b old)) g.ins) ≡ None

-- ---- gate after gate, at one bit

-- whether there is no number
abbrev pub is_none : Option ℕ → Bool
is_none None = true
is_none (Some m) = false

-- whether the gate is this one
abbrev pub is_this_gate : Option ℕ → ℕ → Bool
is_this_gate None k = false
is_this_gate (Some m) k = m == k

-- The meaning of words for the gates at bit b, if the given wires have the words `given`: the values, if all gates have
-- a row; whether they do; and for each gate whether it is the first that has none.
pub record AreGateValuesAtBit (given : List ℕ) (gs : List Gate) (words lacking : List ℕ) (whole b : ℕ) : Type 0 where
  pub values : bit whole b ≡ true → evaluate (lane b given) gs ≡ Some (lane b words)
  pub defined : bit whole b ≡ is_none (first_undefined_gate (lane b given) gs)
  pub undefined : (k : ℕ) → k < length gs →
      bit (slice_index lacking k) b ≡ is_this_gate (first_undefined_gate (lane b given) gs) k

-- the meaning of words for the gates of a module under an assignment, at bit b
pub record AreModuleValuesAtBit (n : Netlist) (a : ℕ) (words lacking : List ℕ) (whole b : ℕ) : Type 0 where
  pub values : bit whole b ≡ true → AreWireValues n (bit a) (lane b words)
  pub undefined : (k : ℕ) → k < length n.gates →
      (bit (slice_index lacking k) b ≡ true) ↔ IsFirstGateWithoutRow n (bit a) k
  pub none : bit whole b ≡ false → (k : ℕ) × IsFirstGateWithoutRow n (bit a) k
