-- A fault that `owner_table` names means that the boxes do not tile
use Rattle.module_box.proofs.Imports.{Box2, and_from, and_parts, ap₂, arith, common_steps, in_box, pos, refl, span_from}
use Rattle.module_box.proofs.Imports.{span_parts, true, ℕ, ◌%◌, ◌*◌, ◌+◌, ◌-◌, ◌/◌, ◌<◌, ◌∙◌, ◌≡◌, ◌≤◌}
use Rattle.module_box.specs.Tiling.{rectangle_of}
use Rattle.module_box.specs.Laws.{TileFaultMeansNoTiling}
use Rattle.module_box.specs.declared.tile.TileFault.TheVariants.{Outside, Overlap, Gap, Memory}
use Rattle.module_box.proofs.Tilings.{div_small}

-- the lower right cell of a box is in it
last_cell : (b : Box2) → 2 ≤ b.w → 2 ≤ b.h → in_box b (pos (b.x + b.w - 1)) (pos (b.y + b.h - 1)) ≡ true
unfolding in_box
last_cell b p q = grind (arith, common_steps, and_from, span_from)

below_sides : (w h i k : ℕ) → in_box (rectangle_of w h) (pos i) (pos k) ≡ true → (i < w) × (k < h)
unfolding in_box
below_sides w h i k e = grind (arith, common_steps, and_parts, span_parts)

pub from_sides : (w h i k : ℕ) → i < w → k < h → in_box (rectangle_of w h) (pos i) (pos k) ≡ true
unfolding in_box
from_sides w h i k p q = grind (arith, common_steps, and_from, span_from)

pub corner_column : (w n : ℕ) → 2 ≤ w → w % 2 ≡ 0 → 2 * (n % (w / 2)) < w
corner_column w n a e = grind (arith, common_steps)

pub corner_row : (w h n : ℕ) → n < (h / 2) * (w / 2) → 2 * (n / (w / 2)) < h
corner_row w h n b = let d = div_small (h / 2) (w / 2) n b in omega (arith, d)

pub no_tiling : TileFaultMeansNoTiling
no_tiling w h boxes (Outside n) task f m tile =
    let b = f.1.0 in
    let s = task.sides n b f.1.1 in
    let p = below_sides w h (b.x + b.w - 1) (b.y + b.h - 1) (tile.inside _ _ n b f.1.1 (last_cell b s.0 s.1)) in
    f.1.2 (record { right = omega (arith, p.0, s.0); bottom = omega (arith, p.1, s.1) })
no_tiling w h boxes (Overlap c) task f m tile = grind (arith, common_steps)
no_tiling w h boxes (Gap c) task f m tile =
    let bad = f.0 in
    let inside : in_box (rectangle_of w h) c.x c.y ≡ true =
    ap₂ (in_box (rectangle_of w h)) bad.x bad.y
    ∙ from_sides w h (2 * (bad.place % (w / 2))) (2 * (bad.place / (w / 2)))
    (corner_column w bad.place task.width.0 task.width.2) (corner_row w h bad.place bad.within) in
    let g = tile.covered c.x c.y inside in
    f.1 g.0 (record { area = g.1; numbered = g.2; has = g.3 })
no_tiling w h boxes Memory task f m tile = m refl
