-- A moved layout keeps off its rim
use Rattle.headline.proofs.Imports.{LayoutHeader, and_parts, ap₂, arith, common_steps, false, in_box, in_layout}
use Rattle.headline.proofs.Imports.{in_ring, in_span, in_span-negsuc, ints, negsuc, pos, span_from, span_parts, sym}
use Rattle.headline.proofs.Imports.{true, ℕ, ℤ, ◌&&◌, ◌+ℤ◌, ◌+◌, ◌-ℤ◌, ◌∙◌, ◌≡◌}
use Rattle.module_box.specs.Tiling.{rectangle_of}
use Rattle.bbm_rule.proofs.RingTests.{ring_read}

-- a number of the old span, and the two numbers next to it, are in the enlarged span
record IsInner (n : ℕ) (x : ℤ) : Type 0 where
  below : in_span 0 (n + 4) ((x +ℤ pos 2) -ℤ pos 1) ≡ true
  at : in_span 0 (n + 4) (x +ℤ pos 2) ≡ true
  above : in_span 0 (n + 4) ((x +ℤ pos 2) +ℤ pos 1) ≡ true

inner : (n : ℕ) (x : ℤ) → in_span 0 n x ≡ true → IsInner n x
inner n (pos k) h = grind (arith, common_steps, span_parts, ints, span_from)
inner n (negsuc k) h = let no = sym (in_span-negsuc 0 n k) ∙ h in cc

-- no cell of the old rectangle is in the new rim
pub not_rim : (s : LayoutHeader) (x y : ℤ) → in_layout s x y ≡ true →
    in_ring (rectangle_of (s.w + 4) (s.h + 4)) (x +ℤ pos 2) (y +ℤ pos 2) ≡ false
unfolding in_box
not_rim s x y h =
    let both = and_parts (in_span 0 s.w x) (in_span 0 s.h y) h in
    let across = inner s.w x both.0 in
    let down = inner s.h y both.1 in
    sym (ring_read (rectangle_of (s.w + 4) (s.h + 4)) (x +ℤ pos 2) (y +ℤ pos 2) true true true
    (sym (ap₂ (λ a b. a && b) across.at down.at))
    (sym (ap₂ (λ a b. a && b) across.below across.above))
    (sym (ap₂ (λ a b. a && b) down.below down.above)))
