-- Two words one above the other, and windows of 64 cells.
use Rattle.bbm_rule.proofs.Imports.{AreFlipBitsForTurn, AreSameBits, Bool, HasNoSetBit, HasWordAt, IsWordPairTurned}
use Rattle.bbm_rule.proofs.Imports.{List, arith, bit, bit_or, bit_xor, cell_at, common_steps, div-add-mod, div-mul-add}
use Rattle.bbm_rule.proofs.Imports.{false, get_or, mod-mul-add, nat_eq, or-false, paired_place, refl, suc, true, turned}
use Rattle.bbm_rule.proofs.Imports.{zero, ℕ, ◌%◌, ◌*◌, ◌+◌, ◌-◌, ◌/◌, ◌<◌, ◌^◌, ◌||◌, ◌∙◌, ◌≡◌}
use Rattle.bbm_rule.proofs.BitLemmas.{by_lt_or_le, by_eq_or_not, holds_below, below_from_test, bit-or, bit-shr, bit-mod}
use Rattle.bbm_rule.proofs.BitLemmas.{bit-shl_low, bit-shl_high, bit_above, bit-xor, xor, xor_false}

-- ---- a pair
abbrev pub first_mask : ℕ
first_mask = 0x5555_5555_5555_5555

same_bool : Bool → Bool → Bool
same_bool true true = true
same_bool true false = false
same_bool false true = false
same_bool false false = true

same_bool-true : (a b : Bool) → same_bool a b ≡ true → a ≡ b
unfolding same_bool
same_bool-true a b h1 = grind (arith, common_steps)

mask_tested : holds_below (λ j. same_bool (bit first_mask j) (nat_eq (j % 2) 0)) 64 ≡ true
unfolding bit same_bool
mask_tested = refl

bit_mask : (j : ℕ) → j < 64 → bit first_mask j ≡ nat_eq (j % 2) 0
bit_mask j l = same_bool-true _ _
    (below_from_test (λ j. same_bool (bit first_mask j) (nat_eq (j % 2) 0)) 64 mask_tested j l)

abbrev pub second_mask : ℕ
second_mask = 0xAAAA_AAAA_AAAA_AAAA

second_tested : holds_below (λ j. same_bool (bit second_mask j) (nat_eq (j % 2) 1)) 64 ≡ true
unfolding bit same_bool
second_tested = refl

pub bit_second : (j : ℕ) → j < 64 → bit second_mask j ≡ nat_eq (j % 2) 1
bit_second j l = same_bool-true _ _
    (below_from_test (λ j. same_bool (bit second_mask j) (nat_eq (j % 2) 1)) 64 second_tested j l)

-- a word that is joined from first and second cells of pairs
pub joined_zero : (f s : ℕ) → bit (bit_or f (s * 2 % 18446744073709551616)) 0 ≡ bit f 0
joined_zero f s =
    rw (bit-or f (s * 2 % 2 ^ 64) 0, bit-mod (s * 2 ^ 1) 64 0 (omega arith), bit-shl_low s 1 0 (omega arith))
    (or-false (bit f 0))

pub mate_even : (j : ℕ) → j % 2 ≡ 0 → paired_place j ≡ 1 + j
unfolding paired_place
mate_even j even = rw even (omega arith)

pub mate_odd : (i : ℕ) → i % 2 ≡ 0 → paired_place (1 + i) ≡ i
unfolding paired_place
mate_odd i even = grind (arith, common_steps)

-- the flips are those of the lower row and the upper one too
pub flips_below : (f a n b m main anti : ℕ) → AreFlipBitsForTurn f a n b m main anti →
    AreFlipBitsForTurn f b m a n anti main
flips_below f a n b m main anti flips = grind (arith, common_steps)

-- a row of 32 blocks is turned if the first and the second cell of each is
pub cells_turned : (a b a' : ℕ) →
    ((i : ℕ) → i < 63 → i % 2 ≡ 0 → (bit a' i ≡ turned (bit a i) (bit b (1 + i)) (bit a (1 + i)) (bit b i))
    × (bit a' (1 + i) ≡ turned (bit a (1 + i)) (bit b i) (bit a i) (bit b (1 + i)))) →
    (j : ℕ) → j < 64 → bit a' j ≡ turned (bit a j) (bit b (paired_place j)) (bit a (paired_place j)) (bit b j)
cells_turned a b a' each j l = by_eq_or_not (j % 2) 0
    (λ even. rw (mate_even j even) ((each j (omega arith) even).0))
    (λ odd.
    let i : ℕ = j - 1 in
    let e : j ≡ 1 + i = omega arith in
    let even : i % 2 ≡ 0 = omega arith in
    rw (e, mate_odd i even) ((each i (omega arith) even).1))

-- a word that gets flips of first cells, and those of second cells one place up
pub row_flipped : (a first second j : ℕ) → j < 63 → bit (bit_xor a (bit_or first (second * 2 % 18446744073709551616)))
    (1 + j) ≡ xor (bit a (1 + j)) (bit first (1 + j) || bit second j)
row_flipped a first second j l = rw (
  bit-xor a (bit_or first (second * 2 % 2 ^ 64)) (1 + j),
  bit-or first (second * 2 % 2 ^ 64) (1 + j),
  bit-mod (second * 2 ^ 1) 64 (1 + j) (omega arith),
  bit-shl_high second 1 j (omega arith),
) refl

side_turned : (a b main anti : ℕ) → AreFlipBitsForTurn first_mask a (a / 2) b (b / 2) main anti → (j : ℕ) → j < 64 →
    bit (bit_xor a (bit_or main (anti * 2 % 18446744073709551616))) j
    ≡ turned (bit a j) (bit b (paired_place j)) (bit a (paired_place j)) (bit b j)
side_turned a b main anti flips = cells_turned a b _ (λ i l even. (
  first_at i l even ∙ flips.upper_first i (on i l even) ∙ rw (bit-shr a 1 i, bit-shr b 1 i) refl,
  second_at i l even ∙ flips.upper_second i (on i l even) ∙ rw (bit-shr a 1 i, bit-shr b 1 i) refl,
))
  where
    on : (i : ℕ) → i < 63 → i % 2 ≡ 0 → bit first_mask i ≡ true
    on i l even = rw (bit_mask i (omega arith), even) refl

    none : (i : ℕ) → i < 64 → i % 2 ≡ 1 → (bit main i ≡ false) × (bit anti i ≡ false)
    none i l odd = flips.elsewhere i (rw (bit_mask i l, odd) refl)

    first_at : (i : ℕ) → i < 63 → i % 2 ≡ 0 →
        bit (bit_xor a (bit_or main (anti * 2 % 18446744073709551616))) i ≡ bit (bit_xor a main) i
    first_at zero l even = rw (bit-xor a (bit_or main (anti * 2 % 2 ^ 64)) 0, bit-xor a main 0, joined_zero main anti)
        refl
    first_at (suc i) l even =
        let e : suc i ≡ 1 + i = omega arith in
        rw (
          e,
          row_flipped a main anti i (omega arith),
          (none i (omega arith) (omega arith)).1,
          or-false (bit main (1 + i)),
          bit-xor a main (1 + i),
        ) refl

    second_at : (i : ℕ) → i < 63 → i % 2 ≡ 0 →
        bit (bit_xor a (bit_or main (anti * 2 % 18446744073709551616))) (1 + i) ≡ bit (bit_xor (a / 2) anti) i
    second_at i l even = rw (
      row_flipped a main anti i l,
      (none (1 + i) (omega arith) (omega arith)).0,
      bit-xor (a / 2) anti i,
      bit-shr a 1 i,
    ) refl

pub pairs_turned : (a b main anti : ℕ) → AreFlipBitsForTurn first_mask a (a / 2) b (b / 2) main anti →
    IsWordPairTurned a b (bit_xor a (bit_or main (anti * 2 % 18446744073709551616)))
    (bit_xor b (bit_or anti (main * 2 % 18446744073709551616)))
pairs_turned a b main anti flips = grind (arith, common_steps, side_turned, flips_below)

-- a word stays where nothing flips
pub flipped_same : (a main anti : ℕ) → HasNoSetBit main → HasNoSetBit anti →
    AreSameBits a (bit_xor a (bit_or main (anti * 2 % 18446744073709551616)))
flipped_same a main anti no_main no_anti zero l =
    rw (bit-xor a _ 0, joined_zero main anti, no_main 0) (xor_false (bit a 0))
flipped_same a main anti no_main no_anti (suc j) l =
    let e : suc j ≡ 1 + j = omega arith in
    rw (e, row_flipped a main anti j (omega arith), no_main (1 + j), no_anti j) (xor_false (bit a (1 + j)))

-- ---- windows
pub cell_in_word : (words : List ℕ) (i b : ℕ) → b < 64 → cell_at words (64 * i + b) ≡ bit (get_or words i 0) b
unfolding cell_at
cell_in_word words i b l = grind (arith, common_steps, div-mul-add, mod-mul-add)

pub window_is : (words : List ℕ) (i : ℕ) → get_or words i 0 < 2 ^ 64 →
    HasWordAt words (64 * i + 1) (bit_or (get_or words i 0 / 2)
    (get_or words (i + 1) 0 * 9223372036854775808 % 18446744073709551616))
window_is words i small =
    record { cells = λ j l. by_lt_or_le j 63 (λ low. at_low j low) (λ high. at_high j (omega arith)) }
  where
    a : ℕ
    a = get_or words i 0

    b : ℕ
    b = get_or words (i + 1) 0

    at_low : (j : ℕ) → j < 63 → bit
        (bit_or (get_or words i 0 / 2) (get_or words (i + 1) 0 * 9223372036854775808 % 18446744073709551616)) j
        ≡ cell_at words (64 * i + 1 + j)
    at_low j l =
        let e : 64 * i + 1 + j ≡ 64 * i + (1 + j) = omega arith in
        rw (
          e,
          cell_in_word words i (1 + j) (omega arith),
          bit-or (get_or words i 0 / 2) (get_or words (i + 1) 0 * 9223372036854775808 % 18446744073709551616) j,
          bit-shr (get_or words i 0) 1 j,
          bit-mod (get_or words (i + 1) 0 * 2 ^ 63) 64 j (omega arith),
          bit-shl_low (get_or words (i + 1) 0) 63 j l,
        ) (or-false (bit (get_or words i 0) (1 + j)))

    at_high : (j : ℕ) → j ≡ 63 → bit
        (bit_or (get_or words i 0 / 2) (get_or words (i + 1) 0 * 9223372036854775808 % 18446744073709551616)) j
        ≡ cell_at words (64 * i + 1 + j)
    at_high j e =
        let place : 64 * i + 1 + 63 ≡ 64 * (i + 1) + 0 = omega arith in
        rw (
          e,
          place,
          cell_in_word words (i + 1) 0 (omega arith),
          bit-or (get_or words i 0 / 2) (get_or words (i + 1) 0 * 9223372036854775808 % 18446744073709551616) 63,
          bit-shr (get_or words i 0) 1 63,
          bit_above (get_or words i 0) 64 64 small (omega arith),
          bit-mod (get_or words (i + 1) 0 * 2 ^ 63) 64 63 (omega arith),
          bit-shl_high (get_or words (i + 1) 0) 63 0 (omega arith),
        ) refl

pub by_place : (P : ℕ → Type 0) → ((k b : ℕ) → b < 64 → P (64 * k + b)) → (q : ℕ) → P q
by_place P f q =
    let e : 64 * (q / 64) + q % 64 ≡ q = div-add-mod q 64 in
    let small : q % 64 < 64 = omega arith in
    rw e at (f (q / 64) (q % 64) small)
