-- The cells of a box, and the place of a cell's block in a table of owners
use Rattle.module_box.proofs.Imports.{Box2, HasOwnerTableSizes, Option, OwnersView, Some, and_from, and_parts, arith}
use Rattle.module_box.proofs.Imports.{common_steps, false≢true, get_or, get_or_from_slice_get, in_box, in_span, length}
use Rattle.module_box.proofs.Imports.{mul-le-mul_right, owner_of, pos, rectangle, refl, slice_get_read, span_from}
use Rattle.module_box.proofs.Imports.{span_parts, sym, true, unsigned_abs, ℕ, ℤ, ◌%◌, ◌*◌, ◌+◌, ◌/◌, ◌<◌, ◌∙◌, ◌≡◌, ◌≤◌}
use Rattle.lemmas.proofs.Common.{ints, negsuc}
use Rattle.lemmas.specs.Bounds.{max_side}
use Rattle.bbm_rule.proofs.Spans.{in_span-negsuc}
use Rattle.module_box.specs.Moves.{IsSmallShift}
use Rattle.module_box.specs.Tiling.{IsInside, rectangle_of}

pub in_span_nat : (f n : ℕ) (x : ℤ) → in_span f n x ≡ true → (k : ℕ) × (x ≡ pos k) × (f ≤ k) × (k < f + n)
in_span_nat f n (pos k) h = let p = span_parts f n k h in (k, refl, p.0, p.1)
in_span_nat f n (negsuc k) h = absurd (false≢true (sym (in_span-negsuc f n k) ∙ h))

pub in_box_nats : (b : Box2) (x y : ℤ) → in_box b x y ≡ true →
    ((k : ℕ) × (x ≡ pos k) × (b.x ≤ k) × (k < b.x + b.w)) × ((k : ℕ) × (y ≡ pos k) × (b.y ≤ k) × (k < b.y + b.h))
unfolding in_box
in_box_nats b x y h = grind (arith, common_steps, and_parts, in_span_nat)

pub abs_within : (b : Box2) (x y : ℤ) → in_box b x y ≡ true →
    (unsigned_abs x < b.x + b.w) × (unsigned_abs y < b.y + b.h)
abs_within b x y h = grind (arith, common_steps, in_box_nats)

-- a cell of a box is a cell of the rectangle that has the box
pub in_rectangle : (w h : ℕ) (b : Box2) (x y : ℤ) → IsInside w h b → in_box b x y ≡ true →
    in_box (rectangle_of w h) x y ≡ true
unfolding in_box
in_rectangle w h b x y inside here = grind (arith, common_steps, in_box_nats, and_from, span_from)

pub in_table : (a b c d : ℕ) → a < b → c < d → a * d + c < b * d
in_table a b c d p q = grind (arith, common_steps, mul-le-mul_right)

pub same_some : {A : Type 0} (o : Option A) (a b : A) → o ≡ Some a → o ≡ Some b → a ≡ b
same_some o a b e f = cc

pub halves : (a b : ℕ) → a < b → b % 2 ≡ 0 → a / 2 < b / 2
halves a b p q = omega arith

pub owner_in_table : (o : OwnersView) (x y : ℤ) → HasOwnerTableSizes o → in_box (rectangle o) x y ≡ true →
    (unsigned_abs y / 2) * (o.width / 2) + unsigned_abs x / 2 < length o.numbers
owner_in_table o x y t h =
    let p = abs_within (rectangle o) x y h in
    rw t.sized (in_table (unsigned_abs y / 2) (o.height / 2) (unsigned_abs x / 2) (o.width / 2)
    (halves _ _ (let q : unsigned_abs y < o.height = omega (arith, p.1) in q) t.height.2)
    (halves _ _ (let q : unsigned_abs x < o.width = omega (arith, p.0) in q) t.width.2))

pub owner_read : (o : OwnersView) (x y : ℤ) (a b r : ℕ) → HasOwnerTableSizes o → in_box (rectangle o) x y ≡ true →
    a ≡ unsigned_abs y → b ≡ unsigned_abs x → r ≡ get_or o.numbers ((a / 2) * (o.width / 2) + b / 2) r →
    r ≡ owner_of o x y
unfolding owner_of
owner_read o x y a b r t h ea eb e = grind (arith, common_steps, get_or_from_slice_get, slice_get_read, owner_in_table)

pub small_number : (z : ℤ) (n m w : ℕ) → z ≡ pos n → n < m + w → m + w ≤ max_side → IsSmallShift z
small_number z n m w e lt few = (omega (arith, ints, e), omega (arith, ints, e, lt, few))
