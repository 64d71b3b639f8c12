-- The words of a line, from the tests that the line passes.
use Rattle.section_text.proofs.Imports.{Bool, List, None, Option, Some, [], arith, common_steps, cond, decimal, false}
use Rattle.section_text.proofs.Imports.{length, number_at, option_and_then_some, slice_get, true, ℕ, ◌∷◌, ◌≡◌, ◌⊎◌}
use Rattle.section_text.proofs.Numbers.{number_spelled}

-- which way a test went
pub chosen : {A : Type 0} (b : Bool) (x y z : A) → cond b x y ≡ z → ((b ≡ true) × (x ≡ z)) ⊎ ((b ≡ false) × (y ≡ z))
chosen b x y z h1 = grind (arith, common_steps)

-- a test that must not fail
pub passed : {A : Type 0} (b : Bool) (o : Option A) (y : A) → cond b o None ≡ Some y → (b ≡ true) × (o ≡ Some y)
passed b o y h1 = grind (arith, common_steps)

pub number_at_spelled : (ws : List (List ℕ)) (i n : ℕ) → number_at ws i ≡ Some n → slice_get ws i ≡ Some (decimal n)
unfolding number_at
number_at_spelled ws i n e = grind (arith, common_steps, option_and_then_some, number_spelled)

-- ---- a line of a known number of words

pub one_word : (ws : List (List ℕ)) (a : List ℕ) → length ws ≡ 1 → slice_get ws 0 ≡ Some a → ws ≡ a ∷ []
one_word [] a len e = absurd (omega arith)
one_word (v ∷ []) a len e = cc
one_word (v ∷ w ∷ ws) a len e = absurd (omega arith)

pub two_words : (ws : List (List ℕ)) (a b : List ℕ) → length ws ≡ 2 → slice_get ws 0 ≡ Some a →
    slice_get ws 1 ≡ Some b → ws ≡ a ∷ b ∷ []
two_words [] a b len e f = absurd (omega arith)
two_words (v ∷ []) a b len e f = absurd (omega arith)
two_words (v ∷ w ∷ []) a b len e f = cc
two_words (v ∷ w ∷ x ∷ ws) a b len e f = absurd (omega arith)

pub three_words : (ws : List (List ℕ)) (a b c : List ℕ) → length ws ≡ 3 → slice_get ws 0 ≡ Some a →
    slice_get ws 1 ≡ Some b → slice_get ws 2 ≡ Some c → ws ≡ a ∷ b ∷ c ∷ []
three_words [] a b c len e f g = absurd (omega arith)
three_words (v ∷ []) a b c len e f g = absurd (omega arith)
three_words (v ∷ w ∷ []) a b c len e f g = absurd (omega arith)
three_words (v ∷ w ∷ x ∷ []) a b c len e f g = cc
three_words (v ∷ w ∷ x ∷ y ∷ ws) a b c len e f g = absurd (omega arith)

pub four_words : (ws : List (List ℕ)) (a b c d : List ℕ) → length ws ≡ 4 → slice_get ws 0 ≡ Some a →
    slice_get ws 1 ≡ Some b → slice_get ws 2 ≡ Some c → slice_get ws 3 ≡ Some d → ws ≡ a ∷ b ∷ c ∷ d ∷ []
four_words [] a b c d len e f g h = absurd (omega arith)
four_words (v ∷ []) a b c d len e f g h = absurd (omega arith)
four_words (v ∷ w ∷ []) a b c d len e f g h = absurd (omega arith)
four_words (v ∷ w ∷ x ∷ []) a b c d len e f g h = absurd (omega arith)
four_words (v ∷ w ∷ x ∷ y ∷ []) a b c d len e f g h = cc
four_words (v ∷ w ∷ x ∷ y ∷ z ∷ ws) a b c d len e f g h = absurd (omega arith)

pub five_words : (ws : List (List ℕ)) (a b c d k : List ℕ) → length ws ≡ 5 → slice_get ws 0 ≡ Some a →
    slice_get ws 1 ≡ Some b → slice_get ws 2 ≡ Some c → slice_get ws 3 ≡ Some d → slice_get ws 4 ≡ Some k →
    ws ≡ a ∷ b ∷ c ∷ d ∷ k ∷ []
five_words [] a b c d k len e f g h i = absurd (omega arith)
five_words (v ∷ []) a b c d k len e f g h i = absurd (omega arith)
five_words (v ∷ w ∷ []) a b c d k len e f g h i = absurd (omega arith)
five_words (v ∷ w ∷ x ∷ []) a b c d k len e f g h i = absurd (omega arith)
five_words (v ∷ w ∷ x ∷ y ∷ []) a b c d k len e f g h i = absurd (omega arith)
five_words (v ∷ w ∷ x ∷ y ∷ z ∷ []) a b c d k len e f g h i = cc
five_words (v ∷ w ∷ x ∷ y ∷ z ∷ u ∷ ws) a b c d k len e f g h i = absurd (omega arith)
