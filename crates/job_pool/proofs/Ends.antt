-- Facts on lists, for the end of a desk.
use Rattle.std.proofs.lemmas.Grind.{common_steps}
use Rattle.job_pool.proofs.Imports.{All, HasAllPlaces, IsEachNumberDrawnOnce, List, View, [], all_but_last, arith}
use Rattle.job_pool.proofs.Imports.{at_map, joined, length, map, map-append, nat_tests, occurrences, past_greatest}
use Rattle.job_pool.proofs.Imports.{past_last, subst, suc, sym, zero, ℕ, ◌++◌, ◌+◌, ◌-◌, ◌<◌, ◌∷◌, ◌≡◌, ◌≤◌}
use Rattle.lemmas.proofs.Common.{Any}
use Rattle.atomic_table.proofs.Lists.{at_index}
use Rattle.job_pool.specs.Lists.{AreAllDraws}
use Rattle.job_pool.proofs.Sums.{at_le, joined_drawn}
use mathlib.Core.Option.{some}
use lib.ListN.{get_elem?}

module _ {X : Type 0} (P : X → Type 0) where
  pub all_head : (xs : List X) (x : X) (ys : List X) → xs ≡ x ∷ ys → All P xs → P x
  all_head xs x ys is h = let k : All P (x ∷ ys) = subst (All P) is h in k 0 x (omega arith)

  pub all_tail : (xs : List X) (x : X) (ys : List X) → xs ≡ x ∷ ys → All P xs → All P ys
  all_tail xs x ys is h = let k : All P (x ∷ ys) = subst (All P) is h in λ i d below. k (suc i) d (omega arith)

  pub all_front : (xs ys : List X) → All P (xs ++ ys) → All P xs
  all_front [] ys h k d l = absurd (omega arith)
  all_front (x ∷ xs) ys h zero d l = h 0 d (omega arith)
  all_front (x ∷ xs) ys h (suc k) d l = all_front xs ys (λ i e m. h (suc i) e (omega arith)) k d (omega arith)

  pub all_last : (xs : List X) (y : X) → All P (xs ++ y ∷ []) → P y
  all_last [] y h = h 0 y (omega arith)
  all_last (x ∷ xs) y h = all_last xs y (λ i e m. h (suc i) e (omega arith))

  pub all_push : (xs zs : List X) (y : X) → zs ≡ xs ++ y ∷ [] → All P xs → P y → All P zs
  all_push xs zs y is h p = subst (All P) (sym is) (both xs h)
    where
      both : (ws : List X) → All P ws → All P (ws ++ y ∷ [])
      both [] g zero d l = p
      both [] g (suc k) d l = absurd (omega arith)
      both (w ∷ ws) g zero d l = g 0 d (omega arith)
      both (w ∷ ws) g (suc k) d l = both ws (λ i e m. g (suc i) e (omega arith)) k d (omega arith)

-- one element moves from the front of one list to the end of another, which is seen by f there and by g here
pub moved : {X Y Z : Type 0} (f : X → Z) (g : Y → Z) (done now : List X) (x : X) (rest : List Y) (y : Y) (left : List Y)
    (all : List Z) → now ≡ done ++ x ∷ [] → rest ≡ y ∷ left → g y ≡ f x → map f done ++ map g rest ≡ all →
    map f now ++ map g left ≡ all
moved f g done now x rest y left all is was same h = grind (arith, common_steps, map-append)

pub shares : (n seats counter : ℕ) (lists : List (List ℕ)) (v : View) → HasAllPlaces n seats counter v →
    v.draws ≡ joined lists → length lists ≡ seats → All (λ xs. past_greatest (all_but_last xs) ≤ n) lists →
    AreAllDraws n seats counter lists
shares n seats counter lists v w is count last = record {
  count = count;
  drawn = joined_drawn counter lists (subst (λ l. IsEachNumberDrawnOnce counter (l ∷ [])) is w.drawn);
  at_most = w.bounded;
  only_last = last;
}

-- the same where the second list holds what f sees
pub passed : {X Z : Type 0} (f : X → Z) (done now : List X) (x : X) (rest left all : List Z) → now ≡ done ++ x ∷ [] →
    rest ≡ f x ∷ left → map f done ++ rest ≡ all → map f now ++ left ≡ all
passed f done now x rest left all is was h = grind (arith, common_steps, map-append)

-- the same where the first list holds what g sees
pub taken : {Y Z : Type 0} (g : Y → Z) (done now : List Z) (rest : List Y) (y : Y) (left : List Y) (all : List Z) →
    now ≡ done ++ g y ∷ [] → rest ≡ y ∷ left → done ++ map g rest ≡ all → now ++ map g left ≡ all
taken g done now rest y left all is was h = grind (arith, common_steps)

last_stands : (xs : List ℕ) (m : ℕ) → past_last xs ≡ m + 1 → 0 < occurrences m xs
last_stands [] m e = absurd (omega arith)
last_stands (y ∷ []) m e = let same : y ≡ m = omega arith in grind (arith, nat_tests)
last_stands (y ∷ z ∷ zs) m e = let h = last_stands (z ∷ zs) m e in omega arith

-- the last draw of a list was counted
pub end_counted : (counter n i : ℕ) (lists : List (List ℕ)) (xs : List ℕ) → IsEachNumberDrawnOnce counter lists →
    get_elem? lists i ≡ some xs → n < past_last xs → n < counter
end_counted counter n i lists xs r at ends =
    let m : ℕ = past_last xs - 1 in
    let stands = last_stands xs m (omega arith) in
    let above = at_le (occurrences m) lists i xs at in
    let once = r.once m in
    let below : m < counter = grind (arith, nat_tests) in
    omega arith

pub any_ended : {X : Type 0} (f : X → List ℕ) (xs : List X) (counter n : ℕ) (lists : List (List ℕ)) → lists ≡ map f xs →
    IsEachNumberDrawnOnce counter lists → Any (λ x. n < past_last (f x)) xs → n < counter
any_ended f xs counter n lists is r (k, x, below, at, ends) =
    end_counted counter n k lists (f x) r
    (subst (λ l. get_elem? l k ≡ some (f x)) (sym is) (at_map f xs k x (at_index xs k x below (sym at)))) ends
