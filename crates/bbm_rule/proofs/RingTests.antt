-- Rings and halos by tests on the two coordinates
use Rattle.bbm_rule.proofs.Imports.{Bool, arith, common_steps, in_span, not, pos, sym, ℤ, ◌&&◌, ◌+ℤ◌, ◌-ℤ◌, ◌||◌, ◌∙◌}
use Rattle.bbm_rule.proofs.Imports.{◌≡◌}
use Rattle.lemmas.proofs.Common.{and_from, and_parts, ap₂, true, ℕ, ◌+◌, ◌<◌, ◌≤◌}
use Rattle.bbm_rule.proofs.Spans.{span_from}
use Rattle.bbm_rule.specs.Boxes.{in_box, has_neighbour_in_set, in_ring, in_halo}
use Rattle.bbm_rule.specs.declared.block.Box2.{Box2}

ring_is : (b : Box2) (x y : ℤ) → in_ring b x y ≡ (in_box b x y && not
    ((in_span b.x b.w (x -ℤ pos 1) && in_span b.x b.w (x +ℤ pos 1))
    && (in_span b.y b.h (y -ℤ pos 1) && in_span b.y b.h (y +ℤ pos 1))))
unfolding in_ring has_neighbour_in_set in_box
ring_is b x y = grind (arith, common_steps)

halo_is : (b : Box2) (x y : ℤ) → in_halo b x y ≡ (not (in_box b x y) &&
    ((in_span b.x b.w (x -ℤ pos 1) || in_span b.x b.w x || in_span b.x b.w (x +ℤ pos 1))
    && (in_span b.y b.h (y -ℤ pos 1) || in_span b.y b.h y || in_span b.y b.h (y +ℤ pos 1))))
unfolding in_halo has_neighbour_in_set in_box
halo_is b x y = grind (arith, common_steps)

-- what the tests answer, from what they test
pub ring_read : (b : Box2) (x y : ℤ) (inside inner_x inner_y : Bool) → inside ≡ in_box b x y →
    inner_x ≡ (in_span b.x b.w (x -ℤ pos 1) && in_span b.x b.w (x +ℤ pos 1)) →
    inner_y ≡ (in_span b.y b.h (y -ℤ pos 1) && in_span b.y b.h (y +ℤ pos 1)) →
    (inside && not (inner_x && inner_y)) ≡ in_ring b x y
ring_read b x y inside inner_x inner_y e f g = ap₂ (λ p q. p && not q) e (ap₂ ◌&&◌ f g) ∙ sym (ring_is b x y)

pub halo_read : (b : Box2) (x y : ℤ) (inside near_x near_y : Bool) → inside ≡ in_box b x y →
    near_x ≡ (in_span b.x b.w (x -ℤ pos 1) || in_span b.x b.w x || in_span b.x b.w (x +ℤ pos 1)) →
    near_y ≡ (in_span b.y b.h (y -ℤ pos 1) || in_span b.y b.h y || in_span b.y b.h (y +ℤ pos 1)) →
    (not inside && (near_x && near_y)) ≡ in_halo b x y
halo_read b x y inside near_x near_y e f g = ap₂ (λ p q. not p && q) e (ap₂ ◌&&◌ f g) ∙ sym (halo_is b x y)

-- ---- boxes

pub ring_in_box : (b : Box2) (x y : ℤ) → in_ring b x y ≡ true → in_box b x y ≡ true
unfolding in_ring
ring_in_box b x y h = (and_parts (in_box b x y) _ h).0

pub area_from : (a : Box2) (x y : ℕ) → a.x ≤ x → x < a.x + a.w → a.y ≤ y → y < a.y + a.h →
    in_box a (pos x) (pos y) ≡ true
unfolding in_box
area_from a x y left right top bottom = grind (arith, common_steps, and_from, span_from)
