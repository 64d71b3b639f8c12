-- Boxes that a halo reaches
use Rattle.module_box.proofs.Imports.{Box2, and_parts, arith, common_steps, in_halo, in_span, or_cases, pos, refl}
use Rattle.module_box.proofs.Imports.{true, ℕ, ℤ, ◌+ℤ◌, ◌+◌, ◌-ℤ◌, ◌<◌, ◌||◌, ◌∙◌, ◌≡◌, ◌⊎◌}
use Rattle.bbm_rule.proofs.RingTests.{halo_read}
use Rattle.module_box.proofs.BoxCells.{in_span_nat}

-- a cell of a halo is beside a column and a row of the box
pub near_parts : (b : Box2) (x y : ℤ) → in_halo b x y ≡ true →
    ((in_span b.x b.w (x -ℤ pos 1) || in_span b.x b.w x || in_span b.x b.w (x +ℤ pos 1)) ≡ true)
    × ((in_span b.y b.h (y -ℤ pos 1) || in_span b.y b.h y || in_span b.y b.h (y +ℤ pos 1)) ≡ true)
near_parts b x y h = and_parts _ _ (and_parts _ _ (halo_read b x y _ _ _ refl refl refl ∙ h)).1

-- one of the three next to x is in the span
pub near_one : (f n : ℕ) (x : ℤ) → (in_span f n (x -ℤ pos 1) || in_span f n x || in_span f n (x +ℤ pos 1)) ≡ true →
    (y : ℤ) × ((y ≡ x -ℤ pos 1) ⊎ ((y ≡ x) ⊎ (y ≡ x +ℤ pos 1))) × (in_span f n y ≡ true)
near_one f n x h = grind (arith, common_steps, or_cases)

near_span : (f n g m : ℕ) (x : ℤ) → (in_span f n (x -ℤ pos 1) || in_span f n x || in_span f n (x +ℤ pos 1)) ≡ true →
    in_span g m x ≡ true → (g < f + n + 1) × (f < g + m + 1)
near_span f n g m x h k = grind (arith, common_steps, near_one, in_span_nat)
