-- A step commutes with an even move
use Rattle.bbm_rule.proofs.Imports.{ap, arith, cases_Bool, common_steps, cond-false, cond-true, ints, negsuc}
use Rattle.bbm_rule.proofs.Imports.{parity, partner, pos, refl, step, suc, ℕ, ℤ, ◌%◌, ◌+ℤ◌, ◌+◌, ◌∙◌, ◌≡◌}
use Rattle.lemmas.proofs.Common.{cases_lt, down_moved, up_moved}
use Rattle.bbm_rule.specs.Moves.{StepCommutesWithEvenMoves}

turned_sum : (a b : ℕ) → negsuc a +ℤ pos b ≡ pos b +ℤ negsuc a
turned_sum a b = omega (arith, ints)

mixed : (a b n : ℕ) → (suc b) % 2 ≡ 0 → n ≡ a % 2 → parity (pos a +ℤ negsuc b) ≡ n
mixed a b n even is = grind (arith, common_steps, cases_lt)

mixed_back : (a b : ℕ) → b % 2 ≡ 0 → parity (pos b +ℤ negsuc a) ≡ (a + 1) % 2
mixed_back a b even = grind (arith, common_steps, cases_lt)

-- an even move keeps parities
pub parity_moved : (x d : ℤ) → parity d ≡ 0 → parity (x +ℤ d) ≡ parity x
parity_moved (pos a) (pos b) even = omega (arith, even)
parity_moved (pos a) (negsuc b) even = mixed a b (a % 2) (omega (arith, even)) refl
parity_moved (negsuc a) (pos b) even = ap parity (turned_sum a b) ∙ mixed_back a b even
parity_moved (negsuc a) (negsuc b) even = omega (arith, even)

-- and so the other coordinate of a block moves along
pub partner_moved : (t : ℕ) (x d : ℤ) → parity d ≡ 0 → partner t (x +ℤ d) ≡ partner t x +ℤ d
unfolding partner
partner_moved t x d even =
    grind (arith, common_steps, common_steps, parity_moved, cases_Bool, cond-true, up_moved, cond-false, down_moved)

pub step_moved : StepCommutesWithEvenMoves
unfolding step
step_moved t dx dy s s' even_x even_y moved x y = grind (arith, common_steps, partner_moved)
