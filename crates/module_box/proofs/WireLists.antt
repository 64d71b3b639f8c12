-- Lists of wires: the place of a wire, and wires that are added
use Rattle.module_box.proofs.Imports.{AreDistinct, IfSome, List, Option, Some, [], ap, append_assoc, ap₂, arith}
use Rattle.module_box.proofs.Imports.{cases_lt, common_steps, drop, eqb-true, false, false≢true, get_or}
use Rattle.module_box.proofs.Imports.{get_or-append-add, get_or_append_left, is_among, is_some, length, length-append}
use Rattle.module_box.proofs.Imports.{nat_eq, ne_eqb, position, refl, same_Some, slice_get, slice_get-get_or}
use Rattle.module_box.proofs.Imports.{slice_get_within, subst, suc, sym, take, take-append-drop, zero, ℕ, ◌++◌, ◌+◌}
use Rattle.module_box.proofs.Imports.{◌<◌, ◌==◌, ◌||◌, ◌∙◌, ◌∷◌, ◌≡◌, ◌≤◌}
use Rattle.lemmas.proofs.Common.{Contains, drop_more, false_from_ne_true, list_any, list_any_at, position_or_len_is}
use Rattle.lemmas.proofs.Common.{eq_itself, eq_sym}
use Rattle.std.proofs.lemmas.List.Quantifiers.{position-Some}
use Rattle.std.proofs.lemmas.Map.Views.{Contains-from_any}
use Rattle.module_box.proofs.Rising.{kept}

-- the wire that stands at the place that a look-up finds
pub place_same : (ws : List ℕ) (w i : ℕ) → Some i ≡ position (λ v. v == w) ws → get_or ws i 0 ≡ w
place_same ws w i e = eqb-true (get_or ws i 0) w (position-Some (λ v. v == w) ws i 0 (sym e)).1

-- so for each place that it finds
pub place_holds : (ws : List ℕ) (w : ℕ) (o : Option ℕ) → o ≡ position (λ v. v == w) ws →
    IfSome o (λ i. get_or ws i 0 ≡ w)
place_holds ws w o h1 = grind (arith, common_steps, place_same)

-- it finds one if and only if the wire is among them
pub place_among : (ws : List ℕ) (w : ℕ) → is_some (position (λ v. v == w) ws) ≡ is_among ws w
place_among [] w = refl
place_among (v ∷ ws) w = grind (arith, common_steps, place_among ws w)

-- the wires at the front of different ones are different
pub different_front : (xs ys : List ℕ) → AreDistinct (xs ++ ys) → AreDistinct xs
different_front xs ys different i j w at there = different i j w (kept xs ys i w at) (kept xs ys j w there)

pub among : (ws : List ℕ) (w : ℕ) → list_any (nat_eq w) ws ≡ is_among ws w
among [] w = refl
among (v ∷ ws) w = ap₂ (λ a b. a || b) (eq_sym v w) (among ws w)

-- a wire that stands after others is not among them
fresh : (xs ys : List ℕ) (w : ℕ) → AreDistinct (xs ++ w ∷ ys) → is_among xs w ≡ false
fresh xs ys w different = false_from_ne_true _ (λ e.
    let found : Contains xs w = Contains-from_any {eq = nat_eq} (λ x y h. eqb-true x y h) w xs (among xs w ∙ e) in
    let k : ℕ = found.0 in
    let here : slice_get (xs ++ w ∷ ys) k ≡ Some w =
    slice_get-get_or (xs ++ w ∷ ys) k w (omega (arith, length-append xs (w ∷ ys), found.1))
    ∙ ap Some (get_or_append_left xs (w ∷ ys) w k found.1 ∙ found.2) in
    let there : slice_get (xs ++ w ∷ ys) (length xs + 0) ≡ Some w =
    slice_get-get_or (xs ++ w ∷ ys) (length xs + 0) w (omega (arith, length-append xs (w ∷ ys)))
    ∙ ap Some (get_or-append-add xs (w ∷ ys) 0 w) in
    let same = different k (length xs + 0) w here there in
    omega (arith, found.1, same))

-- the next of some different wires
module _ (old ws : List ℕ) (i w : ℕ) (different : AreDistinct (old ++ ws)) (within : i < length ws)
    (is : w ≡ get_or ws i w) where
  -- it is not among those before it
  pub next_fresh : (known : List ℕ) → known ≡ old ++ take i ws → is_among known w ≡ false
  next_fresh known so_far =
      let cut : ws ≡ take i ws ++ w ∷ drop (i + 1) ws =
      sym (take-append-drop i ws) ∙ ap (λ (l : List ℕ). take i ws ++ l)
      (drop_more ws i w within ∙ ap (λ x. x ∷ drop (i + 1) ws) (sym is)) in
      let whole : old ++ ws ≡ (old ++ take i ws) ++ w ∷ drop (i + 1) ws =
      ap (λ (l : List ℕ). old ++ l) cut ∙ sym (append_assoc old (take i ws) (w ∷ drop (i + 1) ws)) in
      ap (λ (l : List ℕ). is_among l w) so_far
      ∙ fresh (old ++ take i ws) (drop (i + 1) ws) w (subst AreDistinct whole different)

-- ---- the place of a wire among different ones

-- the place at which it stands
pub place_of_different : (ws : List ℕ) (w n : ℕ) → AreDistinct ws → slice_get ws n ≡ Some w →
    Some n ≡ position (λ v. v == w) ws
place_of_different ws w n different at =
    let l : n < length ws = slice_get_within ws n w at in
    let here : get_or ws n 0 ≡ w = same_Some _ _ (sym (slice_get-get_or ws n 0 l) ∙ at) in
    let none : (k : ℕ) → k < n → (get_or ws k 0 == w) ≡ false = λ k lt.
    let within : k < length ws = omega (arith, lt, l) in
    ne_eqb (get_or ws k 0) w (λ e.
    let same : k ≡ n = different k n w (slice_get-get_or ws k 0 within ∙ ap Some e) at in
    omega (arith, lt, same)) in
    grind (arith, common_steps, position_or_len_is, eq_itself)

-- what stands in a list with one more wire
front_wire : (ws : List ℕ) (w i v : ℕ) → i < length ws → slice_get (ws ++ w ∷ []) i ≡ Some v → slice_get ws i ≡ Some v
front_wire [] w i v l at = absurd (omega arith)
front_wire (u ∷ ws) w zero v l at = at
front_wire (u ∷ ws) w (suc i) v l at = front_wire ws w i v (omega arith) at

last_wire : (ws : List ℕ) (w i v : ℕ) → length ws ≤ i → slice_get (ws ++ w ∷ []) i ≡ Some v → (i ≡ length ws) × (w ≡ v)
last_wire [] w zero v l at = (refl, same_Some w v at)
last_wire [] w (suc i) v l at = absurd cc
last_wire (u ∷ ws) w zero v l at = absurd (omega arith)
last_wire (u ∷ ws) w (suc i) v l at = let r = last_wire ws w i v (omega arith) at in (omega (arith, r.0), r.1)

-- one more wire that is not among them
pub different_push : (ws : List ℕ) (w : ℕ) → AreDistinct ws → is_among ws w ≡ false → AreDistinct (ws ++ w ∷ [])
different_push ws w different new i j v at there = grind (arith, common_steps, cases_lt, front_wire, last_wire, apart)
  where
    apart : (k v : ℕ) → slice_get ws k ≡ Some v → w ≡ v → ⊥
    apart k v at e =
        let l : k < length ws = slice_get_within ws k v at in
        let here : get_or ws k 0 ≡ w = same_Some _ _ (sym (slice_get-get_or ws k 0 l) ∙ at) ∙ sym e in
        false≢true (sym new ∙ list_any_at (λ u. u == w) ws k 0 l (ap (λ u. u == w) here ∙ eq_itself w))
