-- The cells of a box, counted from its corner
use Rattle.module_box.proofs.Imports.{Box2, arith, common_steps, in_box, true, unsigned_abs, ℤ, ◌≡◌, ◌≤◌}
use Rattle.module_box.proofs.BoxCells.{in_box_nats}

-- a column or row of a box is not before the first
pub abs_from : (b : Box2) (x y : ℤ) → in_box b x y ≡ true → (b.x ≤ unsigned_abs x) × (b.y ≤ unsigned_abs y)
abs_from b x y h = grind (arith, common_steps, in_box_nats)
