-- Numbers in a span, and the two coordinates of a block
use Rattle.bbm_rule.proofs.Imports.{and_parts, arith, cases_Bool, common_steps, cond-false, cond-true, eqb-true}
use Rattle.bbm_rule.proofs.Imports.{false, in_span, le-leb, ltb-true, nat_tests, negsuc, next_neg}
use Rattle.bbm_rule.proofs.Imports.{parity, partner, pos, pred_pos, refl, suc, sym, true, zero, ℕ, ℤ, ◌%◌, ◌&&◌, ◌+ℤ◌}
use Rattle.bbm_rule.proofs.Imports.{◌+◌, ◌-ℤ◌, ◌<◌, ◌∙◌, ◌≡◌, ◌≤◌, ◌⊎◌}
use Rattle.lemmas.proofs.Common.{eqb, leb, ltb, ne_eqb, and_from, eqb-false, leb-true, lt-ltb}

-- the same tests, where the same facts hold
same_tests : (f n k m : ℕ) → (f ≤ k → f ≤ m) → (f ≤ m → f ≤ k) → (k < f + n → m < f + n) → (m < f + n → k < f + n) →
    (leb f k && ltb k (f + n)) ≡ (leb f m && ltb m (f + n))
same_tests f n k m p q r s = grind (arith, nat_tests)

pub in_span-pos : (f n k : ℕ) → in_span f n (pos k) ≡ (leb f k && ltb k (f + n))
unfolding in_span
in_span-pos f n k = refl

pub in_span-negsuc : (f n k : ℕ) → in_span f n (negsuc k) ≡ false
unfolding in_span
in_span-negsuc f n k = refl

pub span_parts : (f n k : ℕ) → in_span f n (pos k) ≡ true → (f ≤ k) × (k < f + n)
unfolding in_span
span_parts f n k h = let p = and_parts (leb f k) (ltb k (f + n)) h in (leb-true f k p.0, ltb-true k (f + n) p.1)

pub span_from : (f n k : ℕ) → f ≤ k → k < f + n → in_span f n (pos k) ≡ true
unfolding in_span
span_from f n k p q = and_from (leb f k) (ltb k (f + n)) (le-leb f k p) (lt-ltb k (f + n) q)

-- the other coordinate of a block is next to it
pub partner_near : (t : ℕ) (z : ℤ) → (partner t z ≡ z +ℤ pos 1) ⊎ (partner t z ≡ z -ℤ pos 1)
unfolding partner
partner_near t z = grind (arith, common_steps, cases_Bool, cond-true, cond-false)

partner_up : (t : ℕ) (z : ℤ) → eqb (parity z) (t % 2) ≡ true → partner t z ≡ z +ℤ pos 1
unfolding partner
partner_up t z e = cond-true _ _ _ e

partner_down : (t : ℕ) (z : ℤ) → eqb (parity z) (t % 2) ≡ false → partner t z ≡ z -ℤ pos 1
unfolding partner
partner_down t z e = cond-false _ _ _ e

up_even : (f n k : ℕ) → f % 2 ≡ 0 → n % 2 ≡ 0 → k % 2 ≡ 0 → in_span f n (pos (k + 1)) ≡ in_span f n (pos k)
unfolding in_span
up_even f n k pf pn pk = grind (arith, common_steps, same_tests)

even_up : (f n t k : ℕ) → f % 2 ≡ 0 → n % 2 ≡ 0 → t % 2 ≡ 0 → eqb (k % 2) (t % 2) ≡ true →
    in_span f n (partner t (pos k)) ≡ in_span f n (pos k)
even_up f n t k pf pn pt e = grind (arith, common_steps, partner_up, up_even, eqb-true)

even_down : (f n t k : ℕ) → f % 2 ≡ 0 → n % 2 ≡ 0 → t % 2 ≡ 0 → eqb (k % 2) (t % 2) ≡ false →
    in_span f n (partner t (pos k)) ≡ in_span f n (pos k)
even_down f n t zero pf pn pt e = absurd (eqb-false 0 (t % 2) e (sym pt))
even_down f n t (suc m) pf pn pt e = grind (arith, common_steps, eqb-false, partner_down, pred_pos, up_even)

negative_partner : (f n t k : ℕ) → t % 2 ≡ 0 → in_span f n (partner t (negsuc k)) ≡ false
negative_partner f n t zero pt = grind (arith, common_steps, partner_down, ne_eqb, in_span-negsuc)
negative_partner f n t (suc k) pt =
    grind (arith, common_steps, partner_up, next_neg, in_span-negsuc, partner_down)

-- an even step keeps a coordinate in an even span, or outside it
pub even_span : (f n t : ℕ) (z : ℤ) → f % 2 ≡ 0 → n % 2 ≡ 0 → t % 2 ≡ 0 → in_span f n (partner t z) ≡ in_span f n z
even_span f n t (pos k) pf pn pt = grind (arith, common_steps, cases_Bool, even_up, even_down)
even_span f n t (negsuc k) pf pn pt = negative_partner f n t k pt ∙ sym (in_span-negsuc f n k)
