-- The values of wires: their one valuation, their list, and their text.
use Rattle.circuit.proofs.Imports.{Bool, List, [], ap, append-nil, append_assoc, arith, common_steps, get_or, length}
use Rattle.circuit.proofs.Imports.{netlist_of, refl, suc, sym, take, value_lines, wires, zero, ℕ, ◌++◌, ◌+◌, ◌<◌, ◌∙◌}
use Rattle.circuit.proofs.Imports.{◌∷◌, ◌≡◌, ◌≤◌}
use Rattle.circuit.specs.Laws.{NoninverseHasOneValuation, ValuesAreTheValuation}
use Rattle.circuit.specs.Text.{value_line}
use Rattle.circuit.proofs.Bridging.{gates_are_ordered}
use Rattle.circuit.proofs.Undefined.{forward_valuation}
use Rattle.circuit.proofs.Valuations.{at_most_one, map_range}

value_lines_more : (ns : List (List ℕ)) (vs : List Bool) (k : ℕ) (n : List ℕ) (d : Bool) → k < length ns →
    k < length vs → n ≡ get_or ns k n →
    value_lines (take (k + 1) ns) (take (k + 1) vs)
    ≡ value_lines (take k ns) (take k vs) ++ value_line n (get_or vs k d)
unfolding value_lines
value_lines_more [] vs k n d h l is = absurd (omega arith)
value_lines_more (m ∷ ns) [] k n d h l is = absurd (omega arith)
value_lines_more (m ∷ ns) (b ∷ vs) zero n d h l is =
    append-nil (value_line m b) ∙ sym (ap (λ (x : List ℕ). value_line x b) is)
value_lines_more (m ∷ ns) (b ∷ vs) (suc k) n d h l is =
    ap (λ j. value_lines (take j (m ∷ ns)) (take j (b ∷ vs))) (one_more k)
    ∙ ap (λ (t : List ℕ). value_line m b ++ t) (value_lines_more ns vs k n d (omega arith) (omega arith) is)
    ∙ sym (append_assoc (value_line m b) (value_lines (take k ns) (take k vs)) (value_line n (get_or vs k d)))
  where
    one_more : (k : ℕ) → suc k + 1 ≡ suc (k + 1)
    one_more k = omega arith

pub printed_more : (out before new : List ℕ) (ns : List (List ℕ)) (vs : List Bool) (k : ℕ) (n : List ℕ) (d : Bool) →
    k < length ns → k < length vs → n ≡ get_or ns k n → before ≡ out ++ value_lines (take k ns) (take k vs) →
    new ≡ before ++ value_line n (get_or vs k d) → new ≡ out ++ value_lines (take (k + 1) ns) (take (k + 1) vs)
printed_more out before new ns vs k n d h l is so_far here = grind (arith, common_steps, value_lines_more)

pub has_one_valuation : NoninverseHasOneValuation
has_one_valuation entries a good forward =
    let ordered = gates_are_ordered entries good in
    let found = forward_valuation (netlist_of entries) a ordered forward in
    (found.0, found.1, λ u s w h. at_most_one (netlist_of entries) a u found.0 ordered s found.1 w h)

pub values_are_the_valuation : ValuesAreTheValuation
values_are_the_valuation n a v vs values s =
    map_range vs 0 (wires n) v values.all (λ i h. ap v (plus_zero i) ∙ values.only v s i (omega (arith, values.all, h)))
  where
    plus_zero : (i : ℕ) → 0 + i ≡ i
    plus_zero i = omega arith

-- the lines stop where the values do
lines_all : (ns : List (List ℕ)) (vs : List Bool) (k : ℕ) → length vs ≤ k →
    value_lines (take k ns) (take k vs) ≡ value_lines ns vs
unfolding value_lines
lines_all [] vs zero h = refl
lines_all [] vs (suc k) h = refl
lines_all (n ∷ ns) [] zero h = refl
lines_all (n ∷ ns) [] (suc k) h = refl
lines_all (n ∷ ns) (b ∷ vs) zero h = absurd (omega arith)
lines_all (n ∷ ns) (b ∷ vs) (suc k) h = ap (λ (t : List ℕ). value_line n b ++ t) (lines_all ns vs k (omega arith))

pub printed_all : (out new : List ℕ) (ns : List (List ℕ)) (vs : List Bool) (k : ℕ) → length vs ≤ k →
    new ≡ out ++ value_lines (take k ns) (take k vs) → new ≡ out ++ value_lines ns vs
printed_all out new ns vs k h e = e ∙ ap (λ (t : List ℕ). out ++ t) (lines_all ns vs k h)
