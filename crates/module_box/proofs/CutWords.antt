-- The words of cuts: the bits of a counter, 64 values of the counter at once
use Rattle.module_box.proofs.Imports.{Bool, ap, arith, bit, bit-zero, common_steps, false, refl, sym, true, ℕ, ◌*◌, ◌+◌}
use Rattle.module_box.proofs.Imports.{◌-◌, ◌<◌, ◌∙◌, ◌≡◌, ◌≤◌}
use Rattle.lemmas.proofs.Common.{bit_at_cat_high, bit_at_cat_low}
use Rattle.bbm_rule.proofs.BitLemmas.{holds_below, below_from_test}
use Rattle.bbm_rule.proofs.MarkLemmas.{bit_ones}

abbrev pub same : Bool → Bool → Bool
same true y = y
same false true = false
same false false = true

same_is : (x y : Bool) → same x y ≡ true → x ≡ y
same_is x y h1 = grind (arith, common_steps)

-- all 64 bits are set
swap : (j b : ℕ) → 64 * j + b ≡ j * 64 + b
swap j b = omega arith

low_bit : (j b i : ℕ) → i < 6 → bit (64 * j + b) i ≡ bit b i
unfolding bit
low_bit j b i h = rw (swap j b, bit_at_cat_low j 6 b i h) refl

high_bit : (j b i : ℕ) → b < 64 → 6 ≤ i → bit (64 * j + b) i ≡ bit j (i - 6)
unfolding bit
high_bit j b i small h = rw (swap j b, bit_at_cat_high j 6 b i small h) refl

-- the word of one of the first six cuts does not depend on the chunk
pub low_word : (w i cut j b : ℕ) → holds_below (λ b. same (bit w b) (bit b i)) 64 ≡ true → i < 6 → i ≡ cut → b < 64 →
    bit w b ≡ bit (64 * j + b) cut
low_word w i cut j b test h is small =
    same_is _ _ (below_from_test (λ b. same (bit w b) (bit b i)) 64 test b small) ∙ sym (low_bit j b i h)
    ∙ ap (bit (64 * j + b)) is

-- that of a later cut is that of the chunk
pub high_ones : (i j b : ℕ) → bit j (i - 6) ≡ true → 6 ≤ i → b < 64 → bit 18446744073709551615 b ≡ bit (64 * j + b) i
high_ones i j b e h small = bit_ones b small ∙ sym (high_bit j b i small h ∙ e)

pub high_none : (i j b : ℕ) → bit j (i - 6) ≡ false → 6 ≤ i → b < 64 → bit 0 b ≡ bit (64 * j + b) i
high_none i j b e h small = bit-zero b ∙ sym (high_bit j b i small h ∙ e)

pub mask_0 : holds_below (λ b. same (bit 12297829382473034410 b) (bit b 0)) 64 ≡ true
unfolding bit
mask_0 = refl

pub mask_1 : holds_below (λ b. same (bit 14757395258967641292 b) (bit b 1)) 64 ≡ true
unfolding bit
mask_1 = refl

pub mask_2 : holds_below (λ b. same (bit 17361641481138401520 b) (bit b 2)) 64 ≡ true
unfolding bit
mask_2 = refl

pub mask_3 : holds_below (λ b. same (bit 18374966859414961920 b) (bit b 3)) 64 ≡ true
unfolding bit
mask_3 = refl

pub mask_4 : holds_below (λ b. same (bit 18446462603027742720 b) (bit b 4)) 64 ≡ true
unfolding bit
mask_4 = refl

pub mask_5 : holds_below (λ b. same (bit 18446744069414584320 b) (bit b 5)) 64 ≡ true
unfolding bit
mask_5 = refl
