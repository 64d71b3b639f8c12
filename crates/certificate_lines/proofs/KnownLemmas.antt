-- Wires that are local, and wires that become local.
use Rattle.certificate_lines.proofs.Imports.{List, [], ap, append-nil, are_new_and_distinct, arith, common_steps, drop}
use Rattle.certificate_lines.proofs.Imports.{false, get_or, is_among, length, not, refl, suc, sym, take, take-suc, true}
use Rattle.certificate_lines.proofs.Imports.{zero, ℕ, ◌&&◌, ◌++◌, ◌+◌, ◌<◌, ◌||◌, ◌∙◌, ◌∷◌, ◌≡◌}
use Rattle.lemmas.proofs.Common.{add-one}

new_append : (local xs ys : List ℕ) →
    are_new_and_distinct local (xs ++ ys) ≡ (are_new_and_distinct local xs && are_new_and_distinct (local ++ xs) ys)
unfolding are_new_and_distinct
new_append local [] ys = ap (λ (l : List ℕ). are_new_and_distinct l ys) (sym (append-nil local))
new_append local (x ∷ xs) ys = grind (arith, common_steps, new_append (local ++ x ∷ []) xs ys)

-- the wires from one on
first_new : (local xs ys : List ℕ) (w : ℕ) → are_new_and_distinct local xs ≡ true →
    are_new_and_distinct local (xs ++ w ∷ ys)
    ≡ (not (is_among (local ++ xs) w) && are_new_and_distinct ((local ++ xs) ++ w ∷ []) ys)
unfolding are_new_and_distinct
first_new local xs ys w h = grind (arith, common_steps, new_append)

split_at : (xs : List ℕ) (i : ℕ) (w : ℕ) → i < length xs → w ≡ get_or xs i w → xs ≡ take i xs ++ w ∷ drop (suc i) xs
split_at [] i w h e = absurd (omega arith)
split_at (x ∷ xs) zero w h e = ap (λ (v : ℕ). v ∷ xs) (sym e)
split_at (x ∷ xs) (suc i) w h e = ap (λ (l : List ℕ). x ∷ l) (split_at xs i w (omega arith) e)

module _ (local xs : List ℕ) (i w : ℕ) (within : i < length xs) (is : w ≡ get_or xs i w)
    (so_far : are_new_and_distinct local (take i xs) ≡ true) where
  whole : are_new_and_distinct local xs ≡ (not (is_among (local ++ take i xs) w)
      && are_new_and_distinct ((local ++ take i xs) ++ w ∷ []) (drop (suc i) xs))
  whole = ap (are_new_and_distinct local) (split_at xs i w within is)
      ∙ first_new local (take i xs) (drop (suc i) xs) w so_far

  pub old_wire : (is_among local w || is_among (take i xs) w) ≡ true → false ≡ are_new_and_distinct local xs
  old_wire h = grind (arith, common_steps, whole)

  pub new_wire : (is_among local w || is_among (take i xs) w) ≡ false →
      are_new_and_distinct local (take (i + 1) xs) ≡ true
  unfolding are_new_and_distinct
  new_wire h = grind (arith, common_steps, add-one, take-suc, first_new)

pub none_new : (local : List ℕ) → are_new_and_distinct local [] ≡ true
unfolding are_new_and_distinct
none_new local = refl
