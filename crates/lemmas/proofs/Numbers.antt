-- Numbers: their order, and what tests and comparisons tell of it.
use Rattle.std.proofs.Common.{Equal, Less, arith, false, int_cmp, nat_cmp, nat_le, nat_lt, negsuc, pos, refl, rules}
use Rattle.std.proofs.Common.{suc, true, zero, ℕ, ℤ, ◌*◌, ◌+ℤ◌, ◌+◌, ◌-ℤ◌, ◌<ℤ◌, ◌<◌, ◌==◌, ◌≡◌, ◌≤ℤ◌, ◌≤◌, ◌⊎◌}
use Rattle.std.proofs.Math.Nat.{mul-le-mul_left}
use Rattle.std.proofs.lemmas.Int.{ints}
use Rattle.std.proofs.lemmas.Bool.Decides.{nat_tests}
use Rattle.lemmas.specs.Bounds.{last_column_or_row, max_side}

pub below_or_from : (i m : ℕ) → (i < m) ⊎ (m ≤ i)
below_or_from i m = grind arith

pub below_or_same : (i m : ℕ) → i < m + 1 → (i < m) ⊎ (i ≡ m)
below_or_same i m l = grind arith

pub same_or_higher : (i m : ℕ) → m ≤ i → (m < i) ⊎ (m ≡ i)
same_or_higher i m l = grind arith

pub three_ways : (k n : ℕ) → (k < n) ⊎ ((k ≡ n) ⊎ (n < k))
three_ways k n = grind arith

pub positive : (n : ℕ) → (n ≡ 0 → ⊥) → 0 < n
positive zero h = absurd (h refl)
positive (suc n) h = omega arith

pub at_most_by_test : (a b : ℕ) → nat_le a b ≡ true → a ≤ b
at_most_by_test a b e = grind (arith, nat_tests)

pub below_by_test : (a b : ℕ) → nat_lt a b ≡ true → a < b
below_by_test a b e = grind (arith, nat_tests)

pub not_below_by_test : (a b : ℕ) → nat_lt a b ≡ false → b ≤ a
not_below_by_test a b e = grind (arith, nat_tests)

pub lt_test : (a b : ℕ) → a < b → nat_lt a b ≡ true
lt_test a b l = grind (arith, nat_tests)

pub not_lt_test : (a b : ℕ) → b ≤ a → nat_lt a b ≡ false
not_lt_test a b l = grind (arith, nat_tests)

pub not_le_test : (a b : ℕ) → b < a → nat_le a b ≡ false
not_le_test a b l = grind (arith, nat_tests)

pub eq_itself : (n : ℕ) → (n == n) ≡ true
eq_itself n = search rules

pub eq_sym : (m n : ℕ) → (n == m) ≡ (m == n)
eq_sym m n = grind arith

pub eq_test : (a b : ℕ) → a ≡ b → (a == b) ≡ true
eq_test a b e = grind arith

pub nat_less : (a b : ℕ) → nat_cmp a b ≡ Less → a < b
nat_less a b e = grind arith

pub nat_equal : (a b : ℕ) → nat_cmp a b ≡ Equal → a ≡ b
nat_equal a b e = grind arith

pub less_nat : (a b : ℕ) → a < b → nat_cmp a b ≡ Less
less_nat a b l = grind arith

pub int_less : (a b : ℤ) → int_cmp a b ≡ Less → a <ℤ b
int_less a b e = grind arith

pub int_equal : (a b : ℤ) → int_cmp a b ≡ Equal → a ≡ b
int_equal a b e = grind arith

pub pred_pos : (i : ℕ) → pos (suc i) -ℤ pos 1 ≡ pos i
pred_pos i = omega (arith, ints)

pub next_neg : (i : ℕ) → negsuc (suc i) +ℤ pos 1 ≡ negsuc i
next_neg i = omega (arith, ints)

pub up_moved : (x d : ℤ) → (x +ℤ d) +ℤ pos 1 ≡ (x +ℤ pos 1) +ℤ d
up_moved x d = omega (arith, ints)

pub down_moved : (x d : ℤ) → (x +ℤ d) -ℤ pos 1 ≡ (x -ℤ pos 1) +ℤ d
down_moved x d = omega (arith, ints)

-- a place of a layout, as an integer
pub low_number : (z : ℤ) (k : ℕ) → z ≡ pos k → k < max_side → (pos 0 ≤ℤ z) × (z ≤ℤ pos last_column_or_row)
low_number z k e lt = (omega (arith, ints, e, lt), omega (arith, ints, e, lt))

-- the place of an item in rows of m items
pub place_within : (m n w k : ℕ) → w < n → k < m → m * w + k < m * n
place_within m n w k h l = let more : m * (w + 1) ≤ m * n = mul-le-mul_left m (omega arith) in omega (arith, more)
