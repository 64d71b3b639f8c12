-- The first time is the least, and the last one the greatest.
use Rattle.certificate.proofs.Imports.{All, Contains, List, None, Some, [], arith, common_steps, earlier, fold, later}
use Rattle.certificate.proofs.Imports.{max, min, same_Some, stop_times_of_wire, suc, zero, ℕ, ◌∷◌, ◌≡◌, ◌≤◌, ◌⊎◌}
use Rattle.certificate.specs.Laws.{FirstSeenTimeIsLeast, LastSeenTimeIsGreatest}

there : (u : ℕ) (us : List ℕ) (t : ℕ) → Contains us t → Contains (u ∷ us) t
there u us t h = (suc h.0, (let lt = h.1 in omega (arith, lt)), h.2)

here : (u : ℕ) (us : List ℕ) (t : ℕ) → u ≡ t → Contains (u ∷ us) t
here u us t e = (zero, omega arith, e)

record IsLeastWith (a : ℕ) (ts : List ℕ) (t : ℕ) : Type 0 where
  among : (t ≡ a) ⊎ Contains ts t
  first : t ≤ a
  rest : All (λ u. t ≤ u) ts

least_with : (a : ℕ) (ts : List ℕ) (t : ℕ) → fold earlier (Some a) ts ≡ Some t → IsLeastWith a ts t
least_with a [] t e = (grind (arith, common_steps, same_Some))
least_with a (u ∷ us) t e = grind (arith, common_steps, least_with (min a u) us t e, here, there)

least_of : (ts : List ℕ) (t : ℕ) → fold earlier None ts ≡ Some t → Contains ts t × All (λ u. t ≤ u) ts
least_of [] t e = absurd cc
least_of (a ∷ ts) t e =
    let h = least_with a ts t e in grind (arith, common_steps, here, there)

pub first_is_least : FirstSeenTimeIsLeast
first_is_least c ss w t e = least_of (stop_times_of_wire c ss w) t e

record IsGreatestWith (a : ℕ) (ts : List ℕ) (t : ℕ) : Type 0 where
  among : (t ≡ a) ⊎ Contains ts t
  first : a ≤ t
  rest : All (λ u. u ≤ t) ts

greatest_with : (a : ℕ) (ts : List ℕ) (t : ℕ) → fold later (Some a) ts ≡ Some t → IsGreatestWith a ts t
greatest_with a [] t e = (grind (arith, common_steps, same_Some))
greatest_with a (u ∷ us) t e = grind (arith, common_steps, greatest_with (max a u) us t e, here, there)

greatest_of : (ts : List ℕ) (t : ℕ) → fold later None ts ≡ Some t → Contains ts t × All (λ u. u ≤ t) ts
greatest_of [] t e = absurd cc
greatest_of (a ∷ ts) t e =
    let h = greatest_with a ts t e in grind (arith, common_steps, here, there)

pub last_is_greatest : LastSeenTimeIsGreatest
last_is_greatest c ss w t e = greatest_of (stop_times_of_wire c ss w) t e
