-- A run of cells in one word.
use Rattle.lemmas.proofs.Common.{common_steps, pow_pos}
use Rattle.bbm_rule.proofs.Imports.{FillsRowPart, List, arith, bit, bit_or, cell_at, false, get_or, get_or-set_other}
use Rattle.bbm_rule.proofs.Imports.{length, set, true, ℕ, ◌%◌, ◌*◌, ◌+◌, ◌-◌, ◌/◌, ◌<◌, ◌^◌, ◌||◌, ◌∙◌, ◌≡◌, ◌≤◌}
use Rattle.bbm_rule.proofs.BitLemmas.{bit-or, bit-shr, bit-mod, bit-shl_low, bit-shl_high, bit_above}
use Rattle.bbm_rule.proofs.MarkLemmas.{bit_ones}

-- n ones from bit k on
abbrev ones_from : ℕ → ℕ → ℕ
ones_from n k = 18446744073709551615 / 2 ^ (64 - n) * 2 ^ k % 18446744073709551616

shifted : (n k j : ℕ) → k ≤ j → j < 64 → bit (ones_from n k) j ≡ bit 18446744073709551615 (64 - n + (j - k))
shifted n k j low high =
    let e : j ≡ k + (j - k) = omega arith in
    bit-mod (18446744073709551615 / 2 ^ (64 - n) * 2 ^ k) 64 j high
    ∙ (grind (arith, common_steps, bit-shl_high, pow_pos, bit-shr))

one_inside : (n k j : ℕ) → k ≤ j → j < k + n → k + n ≤ 64 → bit (ones_from n k) j ≡ true
one_inside n k j low high room = shifted n k j low (omega arith) ∙ bit_ones (64 - n + (j - k)) (omega arith)

zero_before : (n k j : ℕ) → j < k → k ≤ 64 → bit (ones_from n k) j ≡ false
zero_before n k j low room =
    bit-mod (18446744073709551615 / 2 ^ (64 - n) * 2 ^ k) 64 j (omega arith)
    ∙ bit-shl_low (18446744073709551615 / 2 ^ (64 - n)) k j low

zero_after : (n k j : ℕ) → k + n ≤ j → j < 64 → 0 < n → n ≤ 64 → bit (ones_from n k) j ≡ false
zero_after n k j low high some most =
    shifted n k j (omega arith) high
    ∙ bit_above 18446744073709551615 64 (64 - n + (j - k)) (omega arith) (omega arith)

or_true : (a b : _) → b ≡ true → (a || b) ≡ true
or_true a b h1 = grind (arith, common_steps)

or_false : (a b : _) → b ≡ false → (a || b) ≡ a
or_false a b h1 = grind (arith, common_steps)

-- The word at a place with n more ones.
pub cells_filled : (words : List ℕ) (p n : ℕ) → p / 64 < length words → 0 < n → p % 64 + n ≤ 64 →
    FillsRowPart p n words (set words (p / 64) (bit_or (get_or words (p / 64) 0) (ones_from n (p % 64))))
unfolding cell_at
cells_filled words p n room some within =
    grind (arith, common_steps, bit-or, one_inside, or_false, zero_before, get_or-set_other, zero_after)
