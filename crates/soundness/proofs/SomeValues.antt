-- Ordered gates have values, or there is a first gate that has no row
use Rattle.soundness.proofs.Imports.{AreGatesOrdered, Bool, List, Netlist, None, Option, Some, Valuation, arith}
use Rattle.soundness.proofs.Imports.{as_values, evaluated, false, get_or-map-range_with_len, inl, inr, length}
use Rattle.soundness.proofs.Imports.{length-map, length-range_with_len, map, range_with_len, refl, subst, sym, ℕ, ◌<◌}
use Rattle.soundness.proofs.Imports.{◌∙◌, ◌≡◌, ◌⊎◌}
use Rattle.circuit.specs.Bridge.{AreWireValues, ValuesStopAt}
use Rattle.circuit.specs.Evaluate.{first_undefined_gate}
use Rattle.circuit.proofs.Undefined.{all_evaluated, stops, up_to}

module _ (n : Netlist) (a : Valuation) (ordered : AreGatesOrdered n.given n.gates) where
  -- the values of all wires
  abbrev pub HasValues : Type 0
  HasValues = (vs : List Bool) × AreWireValues n a vs

  -- the first gate that has no row, and the values before it
  abbrev pub HasStop : Type 0
  HasStop = (k : ℕ) × (vs : List Bool) × ValuesStopAt n a k vs

  abbrev given : List Bool
  given = map a (range_with_len 0 n.given)

  long : length given ≡ n.given
  long = length-map (range_with_len 0 n.given) a ∙ length-range_with_len 0 n.given

  same : (i : ℕ) → i < n.given → as_values given i ≡ a i
  same i h = get_or-map-range_with_len a 0 n.given i i false h (omega arith)

  by_first : (o : Option ℕ) → first_undefined_gate given n.gates ≡ o → HasValues ⊎ HasStop
  by_first None e =
      let found = all_evaluated given n.gates (subst (λ m. AreGatesOrdered m n.gates) (sym long) ordered) e in
      inl (found.0, evaluated n a given found.0 ordered long same found.1)
  by_first (Some k) e =
      let found = up_to given n.gates k (subst (λ m. AreGatesOrdered m n.gates) (sym long) ordered) e in
      inr (k, found.0, stops n a given k found.0 ordered long same found.1)

  pub values_or_stop : HasValues ⊎ HasStop
  values_or_stop = by_first (first_undefined_gate given n.gates) refl
