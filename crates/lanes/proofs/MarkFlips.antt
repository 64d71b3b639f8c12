-- Marks that are flipped or change places
use Rattle.lanes.proofs.Imports.{Bool, List, TakesMarkOfOther, ap, arith, bit, bit-and, bit-is, bit-xor, bit-zero}
use Rattle.lanes.proofs.Imports.{bit_and, bit_at, bit_ones, bit_or, bit_xor, by_eq_or_not, by_lt_or_le, cell_at}
use Rattle.lanes.proofs.Imports.{common_steps, false, false≢true, get_or, get_or-set_other, get_or-set_same, length}
use Rattle.lanes.proofs.Imports.{mod-lt, not, set, sym, trailing_zeros, true, w64, xor, ℕ, ◌%◌, ◌&&◌, ◌*◌, ◌/◌, ◌<◌}
use Rattle.lanes.proofs.Imports.{◌^◌, ◌∙◌, ◌≡◌, ◌≢◌}
use Rattle.bbm_rule.proofs.MarkLemmas.{bit_none, bit_one}
use Rattle.bbm_rule.proofs.BitLemmas.{xor_false}
use Rattle.lemmas.proofs.Common.{beq, bit_at-trailing_zeros, bit_at_set_other, bit_at_set_same, or_zero_l, xor_lt}
use Rattle.std.specs.Int.Count.{trailing_of_zero}

-- the word with one bit
abbrev one_at : ℕ → ℕ
one_at k = 1 * 2 ^ k % 18446744073709551616

bit_there : (k : ℕ) → k < 64 → bit (one_at k) k ≡ true
bit_there k l = grind (arith, common_steps, one_at, bit-is, bit_at_set_same)

bit_elsewhere : (k j : ℕ) → k < 64 → j ≢ k → bit (one_at k) j ≡ false
bit_elsewhere k j l ne = ap (λ (n : ℕ). bit n j) (sym (or_zero_l (one_at k)))
    ∙ rw (bit-is (bit_or 0 (one_at k)) j, bit_at_set_other w64 0 k l j ne) (sym (bit-is 0 j) ∙ bit-zero j)

xor_true : (v : Bool) → xor v true ≡ not v
xor_true v = grind (arith, common_steps)

-- the first set bit of a word is cleared
pub record ClearsFirst (w w' : ℕ) : Type 0 where
  pub within : trailing_zeros w64 w < 64
  pub first : bit w (trailing_zeros w64 w) ≡ true
  pub none : (j : ℕ) → j < trailing_zeros w64 w → bit w j ≡ false
  pub cleared : bit w' (trailing_zeros w64 w) ≡ false
  pub elsewhere : (j : ℕ) → j ≢ trailing_zeros w64 w → bit w' j ≡ bit w j
  pub later : trailing_zeros w64 w < trailing_zeros w64 w'

zeros_of_zero : trailing_zeros w64 0 ≡ 64
zeros_of_zero = trailing_of_zero 64

pub clears_first : (w : ℕ) → w ≢ 0 → w < 2 ^ 64 → ClearsFirst w (bit_xor w (one_at (trailing_zeros w64 w)))
clears_first w some small =
    grind (arith, common_steps, bit_one, bit_none, zeros_of_zero, found, rest_small, cleared, elsewhere, later_of)
  where
    found : (trailing_zeros w64 w < 64) × (bit_at w (trailing_zeros w64 w) ≡ 1)
        × ((j : ℕ) → j < trailing_zeros w64 w → bit_at w j ≡ 0)
    found = bit_at-trailing_zeros w64 w (omega arith) small

    rest_small : bit_xor w (one_at (trailing_zeros w64 w)) < 2 ^ 64
    rest_small = xor_lt 64 w (one_at (trailing_zeros w64 w)) small (mod-lt (1 * 2 ^ trailing_zeros w64 w) (omega arith))

    cleared : bit (bit_xor w (one_at (trailing_zeros w64 w))) (trailing_zeros w64 w) ≡ false
    cleared = bit-xor w (one_at (trailing_zeros w64 w)) (trailing_zeros w64 w)
        ∙ ap (xor (bit w (trailing_zeros w64 w))) (bit_there (trailing_zeros w64 w) found.0)
        ∙ xor_true (bit w (trailing_zeros w64 w)) ∙ ap not (bit_one w _ found.1)

    elsewhere : (j : ℕ) → j ≢ trailing_zeros w64 w → bit (bit_xor w (one_at (trailing_zeros w64 w))) j ≡ bit w j
    elsewhere j ne = bit-xor w (one_at (trailing_zeros w64 w)) j
        ∙ ap (xor (bit w j)) (bit_elsewhere (trailing_zeros w64 w) j found.0 ne) ∙ xor_false (bit w j)

    later_of : (v : ℕ) → v ≢ 0 → v < 2 ^ 64 → bit v (trailing_zeros w64 w) ≡ false →
        ((j : ℕ) → j ≢ trailing_zeros w64 w → bit v j ≡ bit w j) → trailing_zeros w64 w < trailing_zeros w64 v
    later_of v ne small' off same =
        let next = bit_at-trailing_zeros w64 v (omega arith) small' in
        let set = bit_one v _ next.1 in
        by_lt_or_le (trailing_zeros w64 w) (trailing_zeros w64 v) (λ h. h)
        (λ h. by_eq_or_not (trailing_zeros w64 v) (trailing_zeros w64 w)
        (λ e. absurd (false≢true (sym off ∙ ap (bit v) (sym e) ∙ set)))
        (λ other. absurd (false≢true (sym (bit_none w _ (found.2 _ (omega arith))) ∙ sym (same _ other) ∙ set))))

abbrev flipped : List ℕ → ℕ → List ℕ
flipped marks at = set marks (at / 64) (bit_xor (get_or marks (at / 64) 0) (one_at (at % 64)))

pub flipped_there : (marks : List ℕ) (at : ℕ) → at / 64 < length marks →
    cell_at (flipped marks at) at ≡ not (cell_at marks at)
unfolding cell_at
flipped_there marks at room = grind (arith, common_steps, get_or-set_same, one_at, bit-xor, xor, bit_there, xor_true)

pub flipped_elsewhere : (marks : List ℕ) (at u : ℕ) → at / 64 < length marks → u ≢ at →
    cell_at (flipped marks at) u ≡ cell_at marks u
unfolding cell_at
flipped_elsewhere marks at u room ne =
    grind (arith, common_steps, one_at, bit-xor, bit_elsewhere, xor_false, get_or-set_other)

-- the mark of a becomes what that of b was
pub took : (a b : ℕ) (m o m' : List ℕ) → cell_at m' a ≡ cell_at o b →
    ((u : ℕ) → u ≢ a → cell_at m' u ≡ cell_at m u) → TakesMarkOfOther a b m o m'
took a b m o m' there elsewhere u free = grind (arith, common_steps, by_eq_or_not)

-- of two marks that differ, each is the other one flipped
second_flipped : (r s : Bool) → beq r s ≡ false → not r ≡ s
second_flipped r s h1 = grind (arith, common_steps, false≢true)

first_flipped : (r s : Bool) → beq r s ≡ false → not s ≡ r
first_flipped r s h1 = grind (arith, common_steps, false≢true)

pub becomes_second : (v w r s : Bool) → r ≡ v → s ≡ w → beq r s ≡ false → not v ≡ w
becomes_second v w r s ev ew e = ap not (sym ev) ∙ second_flipped r s e ∙ ew

pub becomes_first : (v w r s : Bool) → r ≡ v → s ≡ w → beq r s ≡ false → not w ≡ v
becomes_first v w r s ev ew e = ap not (sym ew) ∙ first_flipped r s e ∙ ev

-- ---- the numbers that lack a mark in one of two lists
true_xor : (v : Bool) → xor true v ≡ not v
true_xor v = grind (arith, common_steps)

abbrev pub lacking : List ℕ → List ℕ → ℕ → ℕ
lacking first second k = bit_xor 18446744073709551615 (bit_and (get_or first k 0) (get_or second k 0))

pub lacking_bit : (first second marks : List ℕ) (u : ℕ) → get_or marks (u / 64) 0 ≡ lacking first second (u / 64) →
    cell_at marks u ≡ not (cell_at first u && cell_at second u)
unfolding cell_at
lacking_bit first second marks u e =
    let a = get_or first (u / 64) 0 in
    let b = get_or second (u / 64) 0 in
    ap (λ (n : ℕ). bit n (u % 64)) e
    ∙ bit-xor 18446744073709551615 (bit_and a b) (u % 64)
    ∙ ap (λ (v : Bool). xor v (bit (bit_and a b) (u % 64))) (bit_ones (u % 64) (omega arith))
    ∙ true_xor (bit (bit_and a b) (u % 64))
    ∙ ap not (bit-and a b (u % 64))

-- a word without bits
pub zero_word : (n : ℕ) → n < 2 ^ 64 → ((j : ℕ) → j < 64 → bit n j ≡ false) → n ≡ 0
zero_word n small none = by_eq_or_not n 0 (λ e. e)
    (λ ne. let f = clears_first n ne small in absurd (false≢true (sym (none _ f.within) ∙ f.first)))
