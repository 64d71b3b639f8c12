-- Blocks on the plane
use Rattle.bbm_rule.proofs.Imports.{Board, Bool, State, arith, common_steps, false, inl, inr, ints, live, nat_lt}
use Rattle.bbm_rule.proofs.Imports.{nat_tests, negsuc, next_neg, not, paired_place, partner, pos, pred_pos, refl, step}
use Rattle.bbm_rule.proofs.Imports.{suc, true, turned, zero, ℕ, ℤ, ◌%◌, ◌+◌, ◌-◌, ◌<◌, ◌≡◌, ◌≤◌, ◌⊎◌}
use Rattle.bbm_rule.proofs.Steps.{step_dead}
use Rattle.bbm_rule.proofs.BitLemmas.{by_lt_or_le, by_eq_or_not}
use Rattle.bbm_rule.proofs.PairLemmas.{mate_even, mate_odd}

-- the coordinate that stands at place n of a row with a margin of one
abbrev pub ext : ℕ → ℤ
ext zero = negsuc 0
ext (suc n) = pos n

pub dead_block : turned false false false false ≡ false
unfolding turned
dead_block = refl

-- a turn undoes itself
pub turned_twice : (a b c d : Bool) → turned (turned a d b c) (turned d a c b) (turned b c a d) (turned c b d a) ≡ a
unfolding turned
turned_twice true true true true = refl
turned_twice true true true false = refl
turned_twice true true false true = refl
turned_twice true true false false = refl
turned_twice true false true true = refl
turned_twice true false true false = refl
turned_twice true false false true = refl
turned_twice true false false false = refl
turned_twice false true true true = refl
turned_twice false true true false = refl
turned_twice false true false true = refl
turned_twice false true false false = refl
turned_twice false false true true = refl
turned_twice false false true false = refl
turned_twice false false false true = refl
turned_twice false false false false = refl

pub mate_twice : (j : ℕ) → paired_place (paired_place j) ≡ j
mate_twice j =
    by_eq_or_not (j % 2) 0
    (λ even. rw (mate_even j even) (mate_odd j even))
    (λ odd.
    let i : ℕ = j - 1 in
    let e : j ≡ 1 + i = omega arith in
    let even : i % 2 ≡ 0 = omega arith in
    rw (e, mate_odd i even) (mate_even i even))

-- ---- the partner of a coordinate

mate_of_odd : (i : ℕ) → i % 2 ≡ 0 → paired_place (suc i) ≡ i
mate_of_odd i even = let e : suc i ≡ 1 + i = omega arith in rw e (mate_odd i even)

pub partner-even_pos : (t n : ℕ) → t % 2 ≡ 0 → partner t (pos n) ≡ pos (paired_place n)
unfolding partner
partner-even_pos t n at_even =
    by_eq_or_not (n % 2) 0
    (λ even. rw (at_even, even, mate_even n even) (omega (arith, ints)))
    (λ odd.
    let i : ℕ = n - 1 in
    let e : n ≡ suc i = omega arith in
    let even : i % 2 ≡ 0 = omega arith in
    let one : suc i % 2 ≡ 1 = omega arith in
    rw (at_even, e, one, mate_of_odd i even) (pred_pos i))

pub partner-even_neg : (t n : ℕ) → t % 2 ≡ 0 → partner t (negsuc n) ≡ negsuc (paired_place n)
unfolding partner
partner-even_neg t n at_even =
    by_eq_or_not (n % 2) 0
    (λ even. let one : (n + 1) % 2 ≡ 1 = omega arith in rw (at_even, one, mate_even n even) (omega (arith, ints)))
    (λ odd.
    let i : ℕ = n - 1 in
    let e : n ≡ suc i = omega arith in
    let even : i % 2 ≡ 0 = omega arith in
    let none : (suc i + 1) % 2 ≡ 0 = omega arith in
    rw (at_even, e, none, mate_of_odd i even) (next_neg i))

pub partner-odd_neg : (t n : ℕ) → t % 2 ≡ 1 → partner t (negsuc (suc n)) ≡ negsuc (suc (paired_place n))
unfolding partner
partner-odd_neg t n at_odd =
    by_eq_or_not (n % 2) 0
    (λ even. let none : (suc n + 1) % 2 ≡ 0 = omega arith in rw (at_odd, none, mate_even n even) (omega (arith, ints)))
    (λ odd.
    let i : ℕ = n - 1 in
    let e : n ≡ suc i = omega arith in
    let even : i % 2 ≡ 0 = omega arith in
    let one : (suc (suc i) + 1) % 2 ≡ 1 = omega arith in
    rw (at_odd, e, one, mate_of_odd i even) (next_neg (suc i)))

pub partner-odd_ext : (t n : ℕ) → t % 2 ≡ 1 → partner t (ext n) ≡ ext (paired_place n)
unfolding partner paired_place
partner-odd_ext t (suc (suc n)) at_odd = grind (arith, common_steps, by_eq_or_not, ints)
partner-odd_ext t _ at_odd = rw at_odd refl

pub partner_twice : (t : ℕ) (u : ℤ) → partner t (partner t u) ≡ u
partner_twice t u = by_eq_or_not (t % 2) 0 (λ even. at_even u even) (λ odd. at_odd u (omega arith))
  where
    at_even : (u : ℤ) → t % 2 ≡ 0 → partner t (partner t u) ≡ u
    at_even u h1 = grind (arith, common_steps, partner-even_pos, mate_twice, partner-even_neg)

    at_ext : (n : ℕ) → t % 2 ≡ 1 → partner t (partner t (ext n)) ≡ ext n
    at_ext n odd = rw (partner-odd_ext t n odd, partner-odd_ext t (paired_place n) odd, mate_twice n) refl

    at_odd : (u : ℤ) → t % 2 ≡ 1 → partner t (partner t u) ≡ u
    at_odd (pos n) odd = at_ext (suc n) odd
    at_odd (negsuc zero) odd = at_ext zero odd
    at_odd (negsuc (suc n)) odd =
        rw (partner-odd_neg t n odd, partner-odd_neg t (paired_place n) odd, mate_twice n) refl

-- a step undoes itself
pub step_twice : (t : ℕ) (s : State) (x y : ℤ) → step t (step t s) x y ≡ s x y
unfolding step
step_twice t s x y = grind (arith, common_steps, partner_twice, turned_twice)

-- ---- outside a board
abbrev pub is_out : ℕ → ℤ → Bool
is_out n (pos x) = not (nat_lt x n)
is_out n (negsuc x) = true

pub column_dead : (b : Board) (u v : ℤ) → is_out b.width u ≡ true → live b u v ≡ false
column_dead b (pos x) (pos y) h = grind (arith, common_steps)
column_dead b (pos x) (negsuc y) h = refl
column_dead b (negsuc x) v h = refl

pub row_dead : (b : Board) (u v : ℤ) → is_out b.height v ≡ true → live b u v ≡ false
row_dead b (pos x) (pos y) h = grind (arith, common_steps)
row_dead b (pos x) (negsuc y) h = refl
row_dead b (negsuc x) v h = refl

-- a coordinate and its partner are outside, so that its blocks are dead
pub record IsFar (t : ℕ) (n : ℕ) (u : ℤ) : Type 0 where
  pub own : is_out n u ≡ true
  pub other : is_out n (partner t u) ≡ true

pub far_column : (t : ℕ) (b : Board) (u v : ℤ) → IsFar t b.width u → step t (live b) u v ≡ false
far_column t b u v far = grind (arith, common_steps, step_dead, column_dead)

pub far_row : (t : ℕ) (b : Board) (u v : ℤ) → IsFar t b.height v → step t (live b) u v ≡ false
far_row t b u v far = grind (arith, common_steps, step_dead, row_dead)

out_pos : (n x : ℕ) → n ≤ x → is_out n (pos x) ≡ true
out_pos n x le = let e : nat_lt x n ≡ false = grind (arith, nat_tests) in rw e refl

pub mate_ge : (j n : ℕ) → n % 2 ≡ 0 → n ≤ j → n ≤ paired_place j
mate_ge j n whole le =
    by_eq_or_not (j % 2) 0
    (λ even. rw (mate_even j even) (omega arith))
    (λ odd.
    let i : ℕ = j - 1 in
    let e : j ≡ 1 + i = omega arith in
    rw (e, mate_odd i (omega arith)) (omega arith))

abbrev pub IsWithin : ℕ → ℤ → Type 0
IsWithin n u = (x : ℕ) × (u ≡ pos x) × (x < n)

abbrev pub IsWithinMargin : ℕ → ℤ → Type 0
IsWithinMargin n u = (x : ℕ) × (u ≡ ext x) × (x < n + 2)

pub even_cases : (t n : ℕ) (u : ℤ) → t % 2 ≡ 0 → n % 2 ≡ 0 → IsWithin n u ⊎ IsFar t n u
even_cases t n (pos x) at_even whole = grind (arith, common_steps, by_lt_or_le, out_pos, partner-even_pos, mate_ge)
even_cases t n (negsuc x) at_even whole = inr (record { own = refl; other = rw (partner-even_neg t x at_even) refl })

pub odd_cases : (t n : ℕ) (u : ℤ) → t % 2 ≡ 1 → n % 2 ≡ 0 → IsWithinMargin n u ⊎ IsFar t n u
odd_cases t n (pos x) at_odd whole =
    by_lt_or_le (suc x) (n + 2) (λ l. inl (suc x, refl, l)) (λ le. inr (record {
      own = out_pos n x (omega arith);
      other = rw (partner-odd_ext t (suc x) at_odd)
          (out_ext (paired_place (suc x)) (mate_ge (suc x) (n + 2) (omega arith) le));
    }))
  where
    out_ext : (y : ℕ) → n + 2 ≤ y → is_out n (ext y) ≡ true
    out_ext zero le = absurd (omega arith)
    out_ext (suc y) le = out_pos n y (omega arith)
odd_cases t n (negsuc zero) at_odd whole = inl (zero, refl, omega arith)
odd_cases t n (negsuc (suc x)) at_odd whole = inr (record { own = refl; other = rw (partner-odd_neg t x at_odd) refl })
