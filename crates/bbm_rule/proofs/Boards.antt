-- The places of the cells of a board.
use Rattle.bbm_rule.proofs.Imports.{Board, and-false, arith, common_steps, in_span, is_inside, le-leb, live}
use Rattle.bbm_rule.proofs.Imports.{nat_lt, pos, true, ℕ, ℤ, ◌&&◌, ◌≡◌}
use Rattle.bbm_rule.proofs.Spans.{in_span-pos, in_span-negsuc}

pub in_span-from_zero : (n k : ℕ) → in_span 0 n (pos k) ≡ nat_lt k n
in_span-from_zero n k = grind (arith, common_steps, in_span-pos, le-leb)

pub inside_is_span : (b : Board) (x y : ℤ) → is_inside b x y ≡ (in_span 0 b.width x && in_span 0 b.height y)
inside_is_span b x y = grind (arith, common_steps, in_span-from_zero, in_span-negsuc, and-false)

pub live_is_inside : (b : Board) (x y : ℤ) → live b x y ≡ true → is_inside b x y ≡ true
live_is_inside b x y h1 = grind (arith, common_steps)
