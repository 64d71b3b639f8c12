-- The values of a circuit's wires, as a module sees them
use Rattle.module_box.proofs.Imports.{AreLocalsOf, Bool, FollowsRow, Gate, LocalNet, Netlist, Option, Satisfies, Some}
use Rattle.module_box.proofs.Imports.{Valuation, ap, arith, bit, circuit_wire, common_steps, eqb, false, get_or, map}
use Rattle.module_box.proofs.Imports.{renumber_gate, row, same_Some, slice_get, slice_get-get_or, subst, suc, sym, true}
use Rattle.module_box.proofs.Imports.{zero, ℕ, ◌%◌, ◌*◌, ◌+◌, ◌/◌, ◌<◌, ◌∙◌, ◌≡◌}
use Rattle.lemmas.proofs.Common.{◌^◌, bit_at-suc, bit_at_lowest, map-map}
use Rattle.bbm_rule.specs.Plane.{one_if}
use Rattle.circuit.proofs.Valuations.{at_most_one}
use Rattle.module_box.specs.Locals.{circuit_gate}
use Rattle.module_box.specs.LocalValues.{IsLocalValuation, values_by_local_number}
use Rattle.module_box.specs.Laws.{ChoicesAreAssignments, LocalValuesAgreeWithCircuit, UndefinedGateIsSeenLocally}
use Rattle.circuit.proofs.Undefined.{row_at}

-- ---- the number whose first n bits are these

from_bits : ℕ → Valuation → ℕ
from_bits zero f = 0
from_bits (suc n) f = one_if (f 0) + 2 * from_bits n (λ i. f (suc i))

one_if_small : (b : Bool) → one_if b < 2
one_if_small true = omega arith
one_if_small false = omega arith

from_bits_below : (n : ℕ) (f : Valuation) → from_bits n f < 2 ^ n
unfolding from_bits
from_bits_below zero f = omega arith
from_bits_below (suc n) f = omega (arith, one_if_small (f 0), from_bits_below n (λ i. f (suc i)))

low_part : (b : Bool) (m : ℕ) → (one_if b + 2 * m) % 2 ≡ one_if b
low_part true m = omega arith
low_part false m = omega arith

is_one : (b : Bool) → eqb (one_if b) 1 ≡ b
is_one b = grind (arith, common_steps)

low_bit : (b : Bool) (m : ℕ) → bit (one_if b + 2 * m) 0 ≡ b
unfolding bit
low_bit b m = ap (λ k. eqb k 1) (bit_at_lowest (one_if b + 2 * m) ∙ low_part b m) ∙ is_one b

block_index : (b : Bool) (m : ℕ) → (one_if b + 2 * m) / 2 ≡ m
block_index true m = omega arith
block_index false m = omega arith

next_bit : (n i : ℕ) → bit n (suc i) ≡ bit (n / 2) i
unfolding bit
next_bit n i = ap (λ k. eqb k 1) (bit_at-suc n i)

bit-from_bits : (n : ℕ) (f : Valuation) (i : ℕ) → i < n → bit (from_bits n f) i ≡ f i
unfolding from_bits
bit-from_bits zero f i h = absurd (omega arith)
bit-from_bits (suc n) f zero h = low_bit (f 0) (from_bits n (λ i. f (suc i)))
bit-from_bits (suc n) f (suc i) h =
    grind (arith, common_steps, bit-from_bits n (λ i. f (suc i)) i (omega arith), next_bit, from_bits, block_index)

pub choices_are_assignments : ChoicesAreAssignments
choices_are_assignments n f = (from_bits n f, from_bits_below n f, bit-from_bits n f)

-- ---- the rows of a module's gates

row_seen : (f : ℕ → ℕ) (v : Valuation) (g : Gate) → FollowsRow v (renumber_gate f g) → FollowsRow (λ i. v (f i)) g
row_seen f v g h = ap (row g.kind) (sym (map-map v f g.ins)) ∙ h ∙ ap Some (map-map v f g.outs)

seen_valuation : (n : Netlist) (l : LocalNet) (inputs v : Valuation) (a : ℕ) → AreLocalsOf n l → Satisfies n inputs v →
    ((i : ℕ) → i < l.netlist.given → bit a i ≡ values_by_local_number l v i) →
    IsLocalValuation l a (values_by_local_number l v)
seen_valuation n l inputs v a are s bits = record {
  given = λ i h. sym (bits i h);
  rows = λ k d h. row_seen (circuit_wire l) v (get_or l.netlist.gates k d)
      (row_at v n.gates _ _ s.rows (are.used k _ (slice_get-get_or l.netlist.gates k d h)));
}

pub local_values_agree_with_circuit : LocalValuesAgreeWithCircuit
local_values_agree_with_circuit n l inputs v a are s bits =
    let seen = seen_valuation n l inputs v a are s bits in
    record {
      is_local = seen;
      only = λ u local i h. at_most_one l.netlist (bit a) u (values_by_local_number l v) are.ordered local seen i h;
    }

-- ---- a gate that has no row
same_gate : (o : Option Gate) (g h : Gate) → o ≡ Some g → o ≡ Some h → g ≡ h
same_gate o g h e f = same_Some g h (sym e ∙ f)

pub undefined_is_seen : UndefinedGateIsSeenLocally
undefined_is_seen n l inputs k place a are u below same bits =
    let h : Gate = get_or l.netlist.gates place u.gate in
    let at : slice_get l.netlist.gates place ≡ Some h = slice_get-get_or l.netlist.gates place u.gate below in
    let is : renumber_gate (circuit_wire l) h ≡ u.gate =
    same_gate (slice_get n.gates k) _ u.gate (ap (slice_get n.gates) (sym same) ∙ are.used place h at) u.numbered in
    record {
      gate = h;
      numbered = at;
      values = values_by_local_number l u.values;
      given = λ i lt. sym (bits i lt);
      before = λ m f lt there. row_seen (circuit_wire l) u.values f
          (u.before (circuit_gate l m) _ (subst (λ b. circuit_gate l m < b) same (are.rising m place lt below))
          (are.used m f there));
      none = ap (row h.kind) (sym (map-map u.values (circuit_wire l) h.ins))
          ∙ ap (λ (g : Gate). row g.kind (map u.values g.ins)) is ∙ u.none;
    }
