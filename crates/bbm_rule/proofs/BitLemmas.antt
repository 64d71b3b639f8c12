-- Bits of numbers as tests.
use Rattle.bbm_rule.proofs.Imports.{Bool, ap, arith, bit, bit_and, bit_at, bit_at-lt, bit_or, bit_xor, common_steps}
use Rattle.bbm_rule.proofs.Imports.{false, inl, inr, nat_eq, refl, suc, sym, true, zero, ℕ, ◌%◌, ◌&&◌, ◌*◌, ◌+◌, ◌-◌}
use Rattle.bbm_rule.proofs.Imports.{◌/◌, ◌<◌, ◌^◌, ◌||◌, ◌∙◌, ◌≡◌, ◌≢◌, ◌≤◌, ◌⊎◌}
use Rattle.lemmas.proofs.Common.{bit_at-zero, bit_at_above, bit_at_and, bit_at_cat_high, bit_at_cat_low, bit_at_or}
use Rattle.lemmas.proofs.Common.{bit_at_xor, eqb_tells, leb_tells, shr-shr, shr_split, left_is_true, right_is_true}

pub by_lt_or_le : {P : Type 0} (a b : ℕ) → (a < b → P) → (b ≤ a → P) → P
by_lt_or_le a b f g = elim (leb_tells b a) [ inl l ↦ g l.1 | inr l ↦ f l.1 ]

pub by_eq_or_not : {P : Type 0} (a b : ℕ) → (a ≡ b → P) → (a ≢ b → P) → P
by_eq_or_not a b f g = elim (eqb_tells a b) [ inl e ↦ f e.1 | inr e ↦ g e.1 ]

-- whether a test holds of each number below n
abbrev pub holds_below : (ℕ → Bool) → ℕ → Bool
holds_below p zero = true
holds_below p (suc n) = p n && holds_below p n

pub below_from_test : (p : ℕ → Bool) (n : ℕ) → holds_below p n ≡ true → (k : ℕ) → k < n → p k ≡ true
below_from_test p zero h k l = absurd (omega arith)
below_from_test p (suc n) h k l =
    by_eq_or_not k n (λ e. rw e (left_is_true (p n) (holds_below p n) h))
    (λ other. below_from_test p n (right_is_true (p n) (holds_below p n) h) k (smaller k n other l))
  where
    smaller : (k n : ℕ) → k ≢ n → k < suc n → k < n
    smaller k n other l = omega arith

-- exactly one of two
abbrev pub xor : Bool → Bool → Bool
xor true true = false
xor true false = true
xor false true = true
xor false false = false

pub xor_false : (a : Bool) → xor a false ≡ a
xor_false a = grind (arith, common_steps)

pub zero_or_one : (n : ℕ) → n < 2 → (n ≡ 0) ⊎ (n ≡ 1)
zero_or_one n h1 = grind (arith, common_steps)

-- the bits of the library
pub bit-is : (n j : ℕ) → bit n j ≡ nat_eq (bit_at n j) 1
unfolding bit
bit-is n j = refl

pub bit-and : (a b j : ℕ) → bit (bit_and a b) j ≡ (bit a j && bit b j)
bit-and a b j = grind (arith, common_steps, bit-is, bit_at_and, zero_or_one, bit_at-lt)

pub bit-or : (a b j : ℕ) → bit (bit_or a b) j ≡ (bit a j || bit b j)
bit-or a b j = grind (arith, common_steps, bit-is, bit_at_or, zero_or_one, bit_at-lt)

pub bit-xor : (a b j : ℕ) → bit (bit_xor a b) j ≡ xor (bit a j) (bit b j)
bit-xor a b j = grind (arith, common_steps, bit-is, bit_at_xor, zero_or_one, bit_at-lt)

pub bit-zero : (j : ℕ) → bit 0 j ≡ false
bit-zero j = rw (bit-is 0 j, bit_at-zero j) refl

pub bit-shr : (n k j : ℕ) → bit (n / 2 ^ k) j ≡ bit n (k + j)
bit-shr n k j = rw (bit-is (n / 2 ^ k) j, bit-is n (k + j), shr-shr n k j) refl

pub bit-mod : (n w j : ℕ) → j < w → bit (n % 2 ^ w) j ≡ bit n j
bit-mod n w j l =
    let e : bit_at n j ≡ bit_at (n % 2 ^ w) j =
    ap (λ m. bit_at m j) (sym (shr_split n w)) ∙ bit_at_cat_low (n / 2 ^ w) w (n % 2 ^ w) j l in
    rw (bit-is (n % 2 ^ w) j, bit-is n j, e) refl

pub bit-shl_low : (n k j : ℕ) → j < k → bit (n * 2 ^ k) j ≡ false
bit-shl_low n k j l =
    let e : bit_at (n * 2 ^ k) j ≡ 0 =
    ap (λ m. bit_at m j) (plus_none (n * 2 ^ k)) ∙ (bit_at_cat_low n k 0 j l ∙ bit_at-zero j) in
    rw (bit-is (n * 2 ^ k) j, e) refl
  where
    plus_none : (m : ℕ) → m ≡ m + 0
    plus_none m = omega arith

pub bit-shl_high : (n k j : ℕ) → 0 < 2 ^ k → bit (n * 2 ^ k) (k + j) ≡ bit n j
bit-shl_high n k j positive =
    let e : bit_at (n * 2 ^ k) (k + j) ≡ bit_at n j =
    ap (λ m. bit_at m (k + j)) (plus_none (n * 2 ^ k))
    ∙ (bit_at_cat_high n k 0 (k + j) positive (omega arith) ∙ ap (bit_at n) (minus k j)) in
    rw (bit-is (n * 2 ^ k) (k + j), bit-is n j, e) refl
  where
    plus_none : (m : ℕ) → m ≡ m + 0
    plus_none m = omega arith

    minus : (k j : ℕ) → k + j - k ≡ j
    minus k j = omega arith

pub bit_above : (n w j : ℕ) → n < 2 ^ w → w ≤ j → bit n j ≡ false
bit_above n w j small le = rw (bit-is n j, bit_at_above n w j small le) refl
