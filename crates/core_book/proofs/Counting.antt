-- Sums over lists, and lists of numbers that were drawn
use Rattle.core_book.proofs.Imports.{IsEachNumberDrawnOnce, List, Some, [], ap, arith, common_steps, get_or}
use Rattle.core_book.proofs.Imports.{is_seat_finished, length}
use Rattle.core_book.proofs.Imports.{length-append, nat_lt, nat_tests, occurrences, refl, replicate, same_Some, set}
use Rattle.core_book.proofs.Imports.{slice_get, suc, total, true, zero, ℕ, ◌++◌, ◌+◌, ◌<◌, ◌∷◌, ◌≡◌, ◌≤◌}
use Rattle.lemmas.proofs.Common.{◌-◌, nat_le}
use Rattle.core_book.specs.Draws.{past_last, one_if_below}

-- ---- sums

pub total-set : {X : Type 0} (f : X → ℕ) (xs : List X) (i : ℕ) (y d : X) → i < length xs →
    total f (set xs i y) + f (get_or xs i d) ≡ total f xs + f y
total-set f [] i y d inside = absurd (omega (arith, inside))
total-set f (x ∷ xs) zero y d inside = omega arith
total-set f (x ∷ xs) (suc i) y d inside = let rest = total-set f xs i y d (omega (arith, inside)) in omega (arith, rest)

pub total-replicate : {X : Type 0} (f : X → ℕ) (n : ℕ) (x : X) → f x ≡ 0 → total f (replicate n x) ≡ 0
total-replicate f zero x none = refl
total-replicate f (suc n) x none = let rest = total-replicate f n x none in omega (arith, rest, none)

pub total-le : {X : Type 0} (f : X → ℕ) (xs : List X) → ((x : X) → f x ≤ 1) → total f xs ≤ length xs
total-le f [] most = omega arith
total-le f (x ∷ xs) most = omega (arith, most x, total-le f xs most)

pub at-le-total : {X : Type 0} (f : X → ℕ) (xs : List X) (i : ℕ) (d : X) → i < length xs →
    f (get_or xs i d) ≤ total f xs
at-le-total f [] i d inside = absurd (omega (arith, inside))
at-le-total f (x ∷ xs) zero d inside = omega arith
at-le-total f (x ∷ xs) (suc i) d inside = omega (arith, at-le-total f xs i d (omega (arith, inside)))

-- ---- one draw more

pub times-append : (x : ℕ) (xs ys : List ℕ) → occurrences x (xs ++ ys) ≡ occurrences x xs + occurrences x ys
times-append x [] ys = omega arith
times-append x (y ∷ xs) ys = let rest = times-append x xs ys in omega (arith, rest)

pub past_last-push : (xs : List ℕ) (x : ℕ) → past_last (xs ++ x ∷ []) ≡ x + 1
past_last-push [] x = refl
past_last-push (y ∷ []) x = refl
past_last-push (y ∷ z ∷ zs) x = past_last-push (z ∷ zs) x

pub is_seat_finished-push : (n : ℕ) (xs : List ℕ) (x : ℕ) → is_seat_finished n (xs ++ x ∷ []) ≡ nat_lt n (x + 1)
is_seat_finished-push n xs x = ap (nat_lt n) (past_last-push xs x)

pub drawn-push : (counter : ℕ) (lists : List (List ℕ)) (seat : ℕ) → seat < length lists →
    IsEachNumberDrawnOnce counter lists →
    IsEachNumberDrawnOnce (counter + 1) (set lists seat (get_or lists seat [] ++ counter ∷ []))
drawn-push counter lists seat inside is =
    let xs : List ℕ = get_or lists seat [] in
    let ys : List ℕ = xs ++ counter ∷ [] in
    record {
      whole = omega (arith, total-set length lists seat ys [] inside, length-append xs (counter ∷ []), is.whole);
      once = λ x.
          let moved = total-set (occurrences x) lists seat ys [] inside in
          let more = times-append x xs (counter ∷ []) in
          let before = is.once x in
          grind (arith, nat_tests);
    }

pub drawn-none : (seats : ℕ) → IsEachNumberDrawnOnce 0 (replicate seats [])
drawn-none seats = grind (arith, common_steps, total-replicate, nat_tests)

-- ---- what a list that has ended tells

-- one less than the end of a list stands in it
end-stands : (xs : List ℕ) (n : ℕ) → n < past_last xs → (last : ℕ) × (n ≤ last) × (1 ≤ occurrences last xs)
end-stands [] n below = absurd (omega (arith, below))
end-stands (y ∷ []) n below = (y, omega (arith, below), grind (arith, nat_tests))
end-stands (y ∷ z ∷ zs) n below = grind (arith, common_steps, (end-stands (z ∷ zs) n below))

-- where a seat has ended, all numbers were drawn
pub one_if_seat_finished-all : (n counter : ℕ) (lists : List (List ℕ)) (seat : ℕ) → seat < length lists →
    is_seat_finished n (get_or lists seat []) ≡ true → IsEachNumberDrawnOnce counter lists → n < counter
one_if_seat_finished-all n counter lists seat inside has is =
    let below : n < past_last (get_or lists seat []) = grind (arith, nat_tests) in
    let there = end-stands (get_or lists seat []) n below in
    let within = at-le-total (occurrences there.0) lists seat [] inside in
    let once = is.once there.0 in
    let drawn : there.0 < counter = drawn-below there.0 counter (omega (arith, within, once, there.2)) in
    omega (arith, drawn, there.1)
  where
    drawn-below : (x n : ℕ) → 1 ≤ one_if_below x n → x < n
    drawn-below x n some = grind (arith, nat_tests)

-- ---- the last draw of a seat

last-end : (xs : List ℕ) (k x : ℕ) → length xs ≡ k + 1 → slice_get xs k ≡ Some x → past_last xs ≡ x + 1
last-end [] k x len e = absurd (omega (arith, len))
last-end (y ∷ []) zero x len e = let same : y ≡ x = same_Some y x e in ap (λ n. n + 1) same
last-end (y ∷ []) (suc k) x len e = absurd (omega (arith, len))
last-end (y ∷ z ∷ zs) zero x len e = absurd (omega (arith, len))
last-end (y ∷ z ∷ zs) (suc k) x len e = last-end (z ∷ zs) k x (omega (arith, len)) e

some-length : (xs : List ℕ) (x : ℕ) → slice_get xs (length xs - 1) ≡ Some x → length xs ≡ (length xs - 1) + 1
some-length [] x e = cc
some-length (y ∷ ys) x e = omega arith

pub is_seat_finished-last : (n : ℕ) (xs : List ℕ) (x : ℕ) → slice_get xs (length xs - 1) ≡ Some x →
    nat_le n x ≡ is_seat_finished n xs
is_seat_finished-last n xs x e = grind (arith, common_steps, last-end, some-length, nat_tests)
