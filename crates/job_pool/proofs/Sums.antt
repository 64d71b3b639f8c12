-- Sums over lists, and lists of numbers that were drawn.
use Rattle.std.proofs.lemmas.Grind.{common_steps}
use Rattle.job_pool.proofs.Imports.{IsEachNumberDrawnOnce, List, [], all_but_last, ap, append-nil, append_assoc, arith}
use Rattle.job_pool.proofs.Imports.{count_at_least, get_or, joined, length, map, nat_tests, occurrences, past_greatest}
use Rattle.job_pool.proofs.Imports.{past_last, refl, set, suc, sym, total, zero, ℕ, ◌++◌, ◌+◌, ◌-◌, ◌∙◌, ◌∷◌, ◌≡◌, ◌≤◌}
use Rattle.lemmas.proofs.Common.{length-append, max, min}
use Rattle.job_pool.specs.Lists.{count_less_than}
use mathlib.Core.Option.{some, some-injective, some-ne-none}
use lib.ListN.{get_elem?}
use Rattle.core_book.proofs.Counting.{past_last-push, times-append}

module _ {X : Type 0} where
  pub total_set : (f : X → ℕ) (xs : List X) (i : ℕ) (v w : X) → get_elem? xs i ≡ some v →
      total f (set xs i w) + f v ≡ total f xs + f w
  total_set f [] i v w e = absurd (some-ne-none v (sym e))
  total_set f (x ∷ xs) zero v w e = let h : f x ≡ f v = ap f (some-injective x v e) in omega arith
  total_set f (x ∷ xs) (suc i) v w e = let h = total_set f xs i v w e in omega arith

  pub total_snoc : (f : X → ℕ) (xs : List X) (y : X) → total f (xs ++ y ∷ []) ≡ total f xs + f y
  total_snoc f [] y = omega arith
  total_snoc f (x ∷ xs) y = let h = total_snoc f xs y in omega arith

  pub total-add : (f g : X → ℕ) (xs : List X) → total (λ x. f x + g x) xs ≡ total f xs + total g xs
  total-add f g [] = refl
  total-add f g (x ∷ xs) = let h = total-add f g xs in omega arith

  pub total-map : {Y : Type 0} (f : X → ℕ) (g : Y → X) (ys : List Y) → total f (map g ys) ≡ total (λ y. f (g y)) ys
  total-map f g [] = refl
  total-map f g (y ∷ ys) = let h = total-map f g ys in omega arith

  pub total_same : (f g : X → ℕ) (xs : List X) → ((x : X) → f x ≡ g x) → total f xs ≡ total g xs
  total_same f g [] same = refl
  total_same f g (x ∷ xs) same = let h = total_same f g xs same in let e = same x in omega arith

  pub total_le : (f g : X → ℕ) (xs : List X) → ((i : ℕ) (x : X) → get_elem? xs i ≡ some x → f x ≤ g x) →
      total f xs ≤ total g xs
  total_le f g [] each = omega arith
  total_le f g (x ∷ xs) each = let h = total_le f g xs (λ i y e. each (suc i) y e) in let e = each 0 x refl in
      omega arith

  pub at_le : (f : X → ℕ) (xs : List X) (i : ℕ) (v : X) → get_elem? xs i ≡ some v → f v ≤ total f xs
  at_le f [] i v e = absurd (some-ne-none v (sym e))
  at_le f (x ∷ xs) zero v e = let h : f x ≡ f v = ap f (some-injective x v e) in omega arith
  at_le f (x ∷ xs) (suc i) v e = let h = at_le f xs i v e in omega arith

pub count_at_least-append : (n : ℕ) (xs ys : List ℕ) →
    count_at_least n (xs ++ ys) ≡ count_at_least n xs + count_at_least n ys
count_at_least-append n [] ys = omega arith
count_at_least-append n (y ∷ xs) ys = let h = count_at_least-append n xs ys in omega arith

pub past_greatest-append : (xs ys : List ℕ) → past_greatest (xs ++ ys) ≡ max (past_greatest xs) (past_greatest ys)
past_greatest-append [] ys = omega arith
past_greatest-append (y ∷ xs) ys = let h = past_greatest-append xs ys in omega arith

pub front-snoc : (xs : List ℕ) (x : ℕ) → all_but_last (xs ++ x ∷ []) ≡ xs
front-snoc [] x = refl
front-snoc (y ∷ []) x = refl
front-snoc (y ∷ z ∷ zs) x = ap (λ l. y ∷ l) (front-snoc (z ∷ zs) x)

pub past_last-last : (xs : List ℕ) (n d : ℕ) → length xs ≡ n + 1 → past_last xs ≡ get_or xs n d + 1
past_last-last [] n d e = absurd (omega arith)
past_last-last (y ∷ []) zero d e = refl
past_last-last (y ∷ []) (suc n) d e = absurd (omega arith)
past_last-last (y ∷ z ∷ zs) zero d e = absurd (omega arith)
past_last-last (y ∷ z ∷ zs) (suc n) d e = past_last-last (z ∷ zs) n d (omega arith)

-- one more draw, which is above all that there were
pub pushed : (xs ys : List ℕ) (x n : ℕ) → ys ≡ xs ++ x ∷ [] → past_greatest xs ≤ x → length xs ≤ past_greatest xs →
    past_greatest xs ≤ n → (past_greatest ys ≡ x + 1) × (length ys ≤ past_greatest ys)
    × (past_greatest ys ≡ past_last ys) × (past_greatest (all_but_last ys) ≤ n)
pushed xs ys x n is above rising below = grind (arith, common_steps, past_greatest-append, past_last-push, front-snoc)

pub none_late : (n : ℕ) (xs : List ℕ) → past_greatest xs ≤ n → count_at_least n xs ≡ 0
none_late n [] h = refl
none_late n (y ∷ ys) h = let l = none_late n ys (omega arith) in grind (arith, nat_tests)

pub early_or_late : (n : ℕ) (xs : List ℕ) → count_less_than n xs + count_at_least n xs ≡ length xs
early_or_late n [] = refl
early_or_late n (y ∷ ys) = let h = early_or_late n ys in grind (arith, nat_tests)

pub early_suc : (k : ℕ) (xs : List ℕ) → count_less_than (suc k) xs ≡ count_less_than k xs + occurrences k xs
early_suc k [] = refl
early_suc k (y ∷ ys) = let h = early_suc k ys in grind (arith, nat_tests)

pub early_zero : (xs : List ℕ) → count_less_than 0 xs ≡ 0
early_zero [] = refl
early_zero (y ∷ ys) = let h = early_zero ys in grind (arith, nat_tests)

pub nothing : {X : Type 0} (xs : List X) → total (λ v. 0) xs ≡ 0
nothing [] = refl
nothing (y ∷ ys) = let h = nothing ys in omega arith

-- as many numbers below n were drawn as n and the counter allow
pub early_in_all : (counter : ℕ) (lists : List (List ℕ)) → IsEachNumberDrawnOnce counter lists → (n : ℕ) →
    total (count_less_than n) lists ≡ min n counter
early_in_all counter lists r zero =
    total_same (count_less_than 0) (λ _. 0) lists early_zero ∙ (nothing lists ∙ omega arith)
early_in_all counter lists r (suc k) =
    let h = early_in_all counter lists r k in
    let s = total_same (count_less_than (suc k)) (λ xs. count_less_than k xs + occurrences k xs) lists (early_suc k) in
    let a = total-add (count_less_than k) (occurrences k) lists in
    let o = r.once k in
    grind (arith, nat_tests)

pub late_in_all : (counter : ℕ) (lists : List (List ℕ)) → IsEachNumberDrawnOnce counter lists → (n : ℕ) →
    total (count_at_least n) lists ≡ counter - n
late_in_all counter lists r n =
    let e = early_in_all counter lists r n in
    let s = total_same (λ xs. count_less_than n xs + count_at_least n xs) length lists (early_or_late n) in
    let a = total-add (count_less_than n) (count_at_least n) lists in
    let w = r.whole in
    omega arith

-- the seat at i draws the next number
pub draw_keeps : (counter : ℕ) (lists : List (List ℕ)) (i : ℕ) (xs : List ℕ) → get_elem? lists i ≡ some xs →
    IsEachNumberDrawnOnce counter lists → IsEachNumberDrawnOnce (suc counter) (set lists i (xs ++ counter ∷ []))
draw_keeps counter lists i xs at r = let ys : List ℕ = xs ++ counter ∷ [] in record {
  whole = let t = total_set length lists i xs ys at in let a = length-append xs (counter ∷ []) in let w = r.whole in
      omega arith;
  once = λ x. let t = total_set (occurrences x) lists i xs ys at in let a = times-append x xs (counter ∷ []) in let o =
      r.once x in grind (arith, nat_tests);
}

-- a list gets another appended, which is emptied
pub merge_keeps : (counter : ℕ) (lists : List (List ℕ)) (i j : ℕ) (xs ys : List ℕ) → get_elem? lists i ≡ some xs →
    get_elem? (set lists i (xs ++ ys)) j ≡ some ys → IsEachNumberDrawnOnce counter lists →
    IsEachNumberDrawnOnce counter (set (set lists i (xs ++ ys)) j [])
merge_keeps counter lists i j xs ys at there r = grind (arith, common_steps, total_set, set, times-append)

-- an empty list more
pub empty_keeps : (counter : ℕ) (lists : List (List ℕ)) → IsEachNumberDrawnOnce counter lists →
    IsEachNumberDrawnOnce counter (lists ++ [] ∷ [])
empty_keeps counter lists r = record {
  whole = let t = total_snoc length lists [] in let w = r.whole in omega arith;
  once = λ x. let t = total_snoc (occurrences x) lists [] in let o = r.once x in omega arith;
}

pub at_head : (xs : List ℕ) (x : ℕ) → get_elem? xs 0 ≡ some x → get_or xs 0 0 ≡ x
at_head [] x e = absurd (some-ne-none x (sym e))
at_head (y ∷ ys) x e = some-injective y x e

pub joined-snoc : (xss : List (List ℕ)) (ys : List ℕ) → joined (xss ++ ys ∷ []) ≡ joined xss ++ ys
joined-snoc [] ys = append-nil ys
joined-snoc (xs ∷ xss) ys = ap (λ zs. xs ++ zs) (joined-snoc xss ys) ∙ sym (append_assoc xs (joined xss) ys)

pub length-joined : (xss : List (List ℕ)) → length (joined xss) ≡ total length xss
length-joined [] = refl
length-joined (xs ∷ xss) = let h = length-joined xss in let a = length-append xs (joined xss) in omega arith

pub times-joined : (x : ℕ) (xss : List (List ℕ)) → occurrences x (joined xss) ≡ total (occurrences x) xss
times-joined x [] = refl
times-joined x (xs ∷ xss) = let h = times-joined x xss in let a = times-append x xs (joined xss) in omega arith

-- lists that stand end to end in one
pub joined_drawn : (counter : ℕ) (lists : List (List ℕ)) → IsEachNumberDrawnOnce counter (joined lists ∷ []) →
    IsEachNumberDrawnOnce counter lists
joined_drawn counter lists r = record {
  whole = let w = r.whole in let l = length-joined lists in omega arith;
  once = λ x. let o = r.once x in let t = times-joined x lists in omega arith;
}
