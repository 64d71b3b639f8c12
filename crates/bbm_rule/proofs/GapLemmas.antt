-- The first number without a mark: it is the first one with a mark in the complement of the words.
use Rattle.bbm_rule.proofs.Imports.{IsNumberUnmarked, List, arith, bit, bit_at, bit_at-lt, cell_at, common_steps}
use Rattle.bbm_rule.proofs.Imports.{get_or, inl, inr, length, map, not, refl, sym, trailing_zeros, true, w64, ℕ, ◌%◌}
use Rattle.bbm_rule.proofs.Imports.{◌*◌, ◌+◌, ◌/◌, ◌<◌, ◌^◌, ◌∙◌, ◌≡◌, ◌≢◌, ◌≤◌}
use Rattle.lemmas.proofs.Common.{bit_at_not, bit_not, get_or-map, false_from_not, true_from_not}
use Rattle.bbm_rule.proofs.BitLemmas.{bit-is, zero_or_one}
use Rattle.bbm_rule.proofs.MarkLemmas.{first_bit, first_marked, none_before, none_in_word}

flipped : List ℕ → List ℕ
flipped words = map (bit_not w64) words

bit_flipped : (n j : ℕ) → n < 2 ^ 64 → j < 64 → bit (bit_not w64 n) j ≡ not (bit n j)
bit_flipped n j fits l = rw (bit-is (bit_not w64 n) j, bit-is n j, bit_at_not w64 n j fits l)
    (elim (zero_or_one (bit_at n j) (bit_at-lt n j)) [ inl p ↦ rw p refl | inr p ↦ rw p refl ])

-- word k of the complement, if there is one
word_flipped : (words : List ℕ) (k : ℕ) → k < length words → get_or (flipped words) k 0 ≡ bit_not w64 (get_or words k 0)
unfolding flipped
word_flipped words k room = get_or-map (bit_not w64) words k 0 0 room

cell_flipped : (words : List ℕ) (u : ℕ) → u / 64 < length words → get_or words (u / 64) 0 < 2 ^ 64 →
    cell_at (flipped words) u ≡ not (cell_at words u)
unfolding cell_at
cell_flipped words u room fits = grind (arith, common_steps, word_flipped, bit_flipped)

-- flipped words have the opposite mark at a number in the word of another one
flipped_in : (words : List ℕ) (at u : ℕ) → at / 64 < length words → get_or words (at / 64) 0 < 2 ^ 64 → at ≤ u →
    u < 64 * (at / 64 + 1) → cell_at (flipped words) u ≡ not (cell_at words u)
flipped_in words at u room fits l h = grind (arith, common_steps, cell_flipped)

-- all numbers in the rest of a word without a gap have a mark
pub all_in_word : (words : List ℕ) (at u : ℕ) → at / 64 < length words → get_or words (at / 64) 0 < 2 ^ 64 →
    bit_not w64 (get_or words (at / 64) 0) / 2 ^ (at % 64) ≡ 0 → at ≤ u → u < 64 * (at / 64 + 1) →
    cell_at words u ≡ true
all_in_word words at u room fits e l h =
    true_from_not _ (sym (flipped_in words at u room fits l h)
    ∙ none_in_word (flipped words) at u (rw (word_flipped words (at / 64) room) e) l h)

-- and so have those before the first gap
pub all_before : (words : List ℕ) (at u : ℕ) → at / 64 < length words → get_or words (at / 64) 0 < 2 ^ 64 →
    bit_not w64 (get_or words (at / 64) 0) / 2 ^ (at % 64) ≢ 0 → at ≤ u →
    u < at + trailing_zeros w64 (bit_not w64 (get_or words (at / 64) 0) / 2 ^ (at % 64)) → cell_at words u ≡ true
all_before words at u room fits some l h =
    let gap = first_bit (bit_not w64 (get_or words (at / 64) 0)) (at % 64) some (omega arith) in
    true_from_not _ (sym (flipped_in words at u room fits l (omega (arith, gap.within)))
    ∙ none_before (flipped words) at u (rw (word_flipped words (at / 64) room) some)
    (rw (word_flipped words (at / 64) room) (omega arith)) l (rw (word_flipped words (at / 64) room) h))

-- which has none
pub first_unmarked : (words : List ℕ) (at : ℕ) → at / 64 < length words → get_or words (at / 64) 0 < 2 ^ 64 →
    bit_not w64 (get_or words (at / 64) 0) / 2 ^ (at % 64) ≢ 0 →
    IsNumberUnmarked words (at + trailing_zeros w64 (bit_not w64 (get_or words (at / 64) 0) / 2 ^ (at % 64)))
first_unmarked words at room fits some =
    let gap = first_bit (bit_not w64 (get_or words (at / 64) 0)) (at % 64) some (omega arith) in
    let marked = first_marked (flipped words) at (rw (word_flipped words (at / 64) room) some)
    (rw (word_flipped words (at / 64) room) (omega arith)) in
    false_from_not _ (sym (flipped_in words at _ room fits (omega arith) (omega (arith, gap.within)))
    ∙ (rw (word_flipped words (at / 64) room) at marked))
