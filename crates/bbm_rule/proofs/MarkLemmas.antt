-- Marks, and the next one
use Rattle.bbm_rule.proofs.Imports.{IsNumberUnmarked, List, MarksOneNumber, SetsCellAtPlace, ap, arith, bit, bit_at}
use Rattle.bbm_rule.proofs.Imports.{cell_at, common_steps, false, false≢true, get_or, refl, sym, trailing_zeros, true}
use Rattle.bbm_rule.proofs.Imports.{w64, ℕ, ◌%◌, ◌*◌, ◌+◌, ◌-◌, ◌/◌, ◌<◌, ◌^◌, ◌∙◌, ◌≡◌, ◌≢◌, ◌≤◌}
use Rattle.lemmas.proofs.Common.{bit_at-trailing_zeros, bit_at_ones, div-le_self}
use Rattle.bbm_rule.proofs.BitLemmas.{by_lt_or_le, by_eq_or_not, bit-is, bit-zero, bit-shr, bit_above}

-- where one number is set, each number without a mark is another, and had none before
pub one_marked : (p : ℕ) (old new : List ℕ) → SetsCellAtPlace p true old new → MarksOneNumber p old new
one_marked p old new sets u free = grind (arith, common_steps, by_eq_or_not, false≢true)

pub bit_none : (n j : ℕ) → bit_at n j ≡ 0 → bit n j ≡ false
bit_none n j e = rw (bit-is n j, e) refl

cell_in : (marks : List ℕ) (q r u : ℕ) → r < 64 → u ≡ 64 * q + r → cell_at marks u ≡ bit (get_or marks q 0) r
unfolding cell_at
cell_in marks q r u l e = grind (arith, common_steps)

-- a number that is at or after `at` in the same word
rest_bit : (marks : List ℕ) (at u : ℕ) → at ≤ u → u < 64 * (at / 64 + 1) →
    cell_at marks u ≡ bit (get_or marks (at / 64) 0 / 2 ^ (at % 64)) (u - at)
rest_bit marks at u l h = grind (arith, common_steps, cell_in, bit-shr)

-- none is marked in the rest of a word that is zero
pub none_in_word : (marks : List ℕ) (at u : ℕ) → get_or marks (at / 64) 0 / 2 ^ (at % 64) ≡ 0 → at ≤ u →
    u < 64 * (at / 64 + 1) → IsNumberUnmarked marks u
none_in_word marks at u e l h = rest_bit marks at u l h ∙ ap (λ n. bit n (u - at)) e ∙ bit-zero (u - at)

pub bit_one : (n j : ℕ) → bit_at n j ≡ 1 → bit n j ≡ true
bit_one n j e = rw (bit-is n j, e) refl

-- the first set bit of a word that is not zero, from a bit on
pub record FirstBit (word k : ℕ) : Type 0 where
  pub within : k + trailing_zeros w64 (word / 2 ^ k) < 64
  pub one : bit (word / 2 ^ k) (trailing_zeros w64 (word / 2 ^ k)) ≡ true
  pub none : (j : ℕ) → j < trailing_zeros w64 (word / 2 ^ k) → bit (word / 2 ^ k) j ≡ false

pub first_bit : (word k : ℕ) → word / 2 ^ k ≢ 0 → word < 2 ^ 64 → FirstBit word k
first_bit word k some small = grind (arith, common_steps, bit_one, bit_none, found, within)
  where
    le_lt : {a b c : ℕ} → a ≤ b → b < c → a < c
    le_lt p q = omega arith

    found : (trailing_zeros w64 (word / 2 ^ k) < 64) × (bit_at (word / 2 ^ k) (trailing_zeros w64 (word / 2 ^ k)) ≡ 1)
        × ((j : ℕ) → j < trailing_zeros w64 (word / 2 ^ k) → bit_at (word / 2 ^ k) j ≡ 0)
    found = bit_at-trailing_zeros w64 (word / 2 ^ k) (omega arith) (le_lt (div-le_self word (2 ^ k)) small)

    within : k + trailing_zeros w64 (word / 2 ^ k) < 64
    within = by_lt_or_le (k + trailing_zeros w64 (word / 2 ^ k)) 64 (λ y. y)
        (λ past. absurd (false≢true (sym (bit_above word 64 _ small past)
        ∙ (sym (bit-shr word k (trailing_zeros w64 (word / 2 ^ k))) ∙ bit_one (word / 2 ^ k) _ found.1))))

-- nor before the first set bit of one that is not
pub none_before : (marks : List ℕ) (at u : ℕ) → get_or marks (at / 64) 0 / 2 ^ (at % 64) ≢ 0 →
    get_or marks (at / 64) 0 < 2 ^ 64 →
    at ≤ u → u < at + trailing_zeros w64 (get_or marks (at / 64) 0 / 2 ^ (at % 64)) → IsNumberUnmarked marks u
none_before marks at u some small l h =
    let first = first_bit (get_or marks (at / 64) 0) (at % 64) some small in
    rest_bit marks at u l (omega (arith, first.within)) ∙ first.none (u - at) (omega arith)

-- that bit is marked
pub first_marked : (marks : List ℕ) (at : ℕ) → get_or marks (at / 64) 0 / 2 ^ (at % 64) ≢ 0 →
    get_or marks (at / 64) 0 < 2 ^ 64 →
    cell_at marks (at + trailing_zeros w64 (get_or marks (at / 64) 0 / 2 ^ (at % 64))) ≡ true
first_marked marks at some small =
    let first = first_bit (get_or marks (at / 64) 0) (at % 64) some small in
    rest_bit marks at _ (omega arith) (omega (arith, first.within))
    ∙ (ap (bit (get_or marks (at / 64) 0 / 2 ^ (at % 64))) (minus at _) ∙ first.one)
  where
    minus : (a b : ℕ) → a + b - a ≡ b
    minus a b = omega arith

-- each of these for a whole word
pub whole_zero : (marks : List ℕ) (k u : ℕ) → get_or marks k 0 ≡ 0 → 64 * k ≤ u → u < 64 * k + 64 →
    IsNumberUnmarked marks u
whole_zero marks k u e l h =
    cell_in marks k (u % 64) u (omega arith) (omega arith) ∙ ap (λ n. bit n (u % 64)) e ∙ bit-zero (u % 64)

pub whole_before : (marks : List ℕ) (k u : ℕ) → get_or marks k 0 ≢ 0 → get_or marks k 0 < 2 ^ 64 → 64 * k ≤ u →
    u < 64 * k + trailing_zeros w64 (get_or marks k 0) → IsNumberUnmarked marks u
whole_before marks k u some small l h =
    let found = bit_at-trailing_zeros w64 (get_or marks k 0) (omega arith) small in
    let under : trailing_zeros w64 (get_or marks k 0) < 64 = found.0 in
    cell_in marks k (u % 64) u (omega arith) (omega arith)
    ∙ bit_none (get_or marks k 0) (u % 64) (found.2 (u % 64) (omega arith))

pub whole_marked : (marks : List ℕ) (k : ℕ) → get_or marks k 0 ≢ 0 → get_or marks k 0 < 2 ^ 64 →
    cell_at marks (64 * k + trailing_zeros w64 (get_or marks k 0)) ≡ true
whole_marked marks k some small =
    let found = bit_at-trailing_zeros w64 (get_or marks k 0) (omega arith) small in
    cell_in marks k (trailing_zeros w64 (get_or marks k 0)) _ found.0 refl ∙ bit_one (get_or marks k 0) _ found.1

pub bit_ones : (b : ℕ) → b < 64 → bit 18446744073709551615 b ≡ true
bit_ones b l = bit_one 18446744073709551615 b (bit_at_ones 64 b l)

-- each number in a full word is marked
pub full_word : (marks : List ℕ) (u : ℕ) → get_or marks (u / 64) 0 ≡ 18446744073709551615 → cell_at marks u ≡ true
unfolding cell_at
full_word marks u e = ap (λ n. bit n (u % 64)) e ∙ bit_ones (u % 64) (omega arith)
