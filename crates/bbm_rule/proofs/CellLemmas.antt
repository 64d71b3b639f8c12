-- Single cells.
use Rattle.bbm_rule.proofs.Imports.{Bool, List, SetsCellAtPlace, arith, bit, bit_and, bit_or, cell_at, common_steps}
use Rattle.bbm_rule.proofs.Imports.{false, get_or, get_or-set_other, get_or-set_same, length, nat_eq, refl, set, sym}
use Rattle.bbm_rule.proofs.Imports.{true, w64, ℕ, ◌%◌, ◌*◌, ◌+◌, ◌-◌, ◌/◌, ◌<◌, ◌^◌, ◌≡◌, ◌≢◌}
use Rattle.lemmas.proofs.Common.{bit_at_clear_other, bit_at_clear_same, bit_at_set_other, bit_at_set_same, shr_and_one}
use Rattle.bbm_rule.proofs.BitLemmas.{by_eq_or_not, bit-is}
use Rattle.bbm_rule.proofs.PairLemmas.{cell_in_word}

pub live_in : (words : List ℕ) (i b : ℕ) → b < 64 →
    nat_eq (bit_and (get_or words i 0 / 2 ^ b) 1) 1 ≡ cell_at words (64 * i + b)
live_in words i b l = grind (arith, common_steps, shr_and_one, cell_in_word, bit-is)

pub cell_is : (words : List ℕ) (p : ℕ) → nat_eq (bit_and (get_or words (p / 64) 0 / 2 ^ (p % 64)) 1) 1 ≡ cell_at words p
unfolding cell_at
cell_is words p = rw (shr_and_one (get_or words (p / 64) 0) (p % 64)) (sym (bit-is (get_or words (p / 64) 0) (p % 64)))

word_changed : (words : List ℕ) (p v : ℕ) (value : Bool) → p / 64 < length words → bit v (p % 64) ≡ value →
    ((j : ℕ) → j < 64 → j ≢ p % 64 → bit v j ≡ bit (get_or words (p / 64) 0) j) →
    SetsCellAtPlace p value words (set words (p / 64) v)
unfolding cell_at
word_changed words p v value room own others =
    grind (arith, common_steps, get_or-set_same, by_eq_or_not, get_or-set_other)

pub cell_set : (words : List ℕ) (p : ℕ) → p / 64 < length words →
    SetsCellAtPlace p true words (set words (p / 64)
    (bit_or (get_or words (p / 64) 0) (1 * 2 ^ (p % 64) % 18446744073709551616)))
cell_set words p room =
    let within : p % 64 < 64 = omega arith in
    word_changed words p _ true room
    (rw (bit-is _ (p % 64), bit_at_set_same w64 (get_or words (p / 64) 0) (p % 64) within) refl) (λ j l other. rw (
      bit-is (get_or words (p / 64) 0) j,
      bit-is _ j,
      bit_at_set_other w64 (get_or words (p / 64) 0) (p % 64) within j other,
    ) refl)

pub cell_cleared : (words : List ℕ) (p : ℕ) → p / 64 < length words →
    SetsCellAtPlace p false words (set words (p / 64)
    (bit_and (get_or words (p / 64) 0) (18446744073709551615 - 1 * 2 ^ (p % 64) % 18446744073709551616)))
cell_cleared words p room =
    let within : p % 64 < 64 = omega arith in
    word_changed words p _ false room
    (rw (bit-is _ (p % 64), bit_at_clear_same w64 (get_or words (p / 64) 0) (p % 64) within) refl) (λ j l other. rw (
      bit-is (get_or words (p / 64) 0) j,
      bit-is _ j,
      bit_at_clear_other w64 (get_or words (p / 64) 0) (p % 64) within j l other,
    ) refl)
