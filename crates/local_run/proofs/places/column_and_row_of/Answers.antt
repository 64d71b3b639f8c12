use Rattle.local_run.proofs.Imports.{Box2, and_parts, ap, arith, box_coord, common_steps, in_box, in_span, pos, rules}
use Rattle.local_run.proofs.Imports.{true, w32, ℕ, ℤ, ◌+◌, ◌-◌, ◌<◌, ◌∙◌, ◌≡◌, ◌≤◌}
use Rattle.lemmas.proofs.Common.{SFits, to_z-of_z, unsigned_abs}
use Rattle.local_run.proofs.Firsts.{span_at}
use Rattle.local_run.proofs.places.column_and_row_of.Goals as goal

record IsFrom (first n from a : ℕ) (z : ℤ) : Type 0 where
  late : from ≤ a
  below : a - from < n
  is : z ≡ box_coord first (a - from)

-- the number of a column or row, from the coordinate
from_abs : (first n from a : ℕ) (z : ℤ) → from ≡ first → in_span first n z ≡ true → a ≡ unsigned_abs z →
    IsFrom first n from a z
unfolding box_coord
from_abs first n from a z e h is =
    let p = span_at first n z h in
    let at : a ≡ first + p.number = is ∙ ap unsigned_abs p.is in
    let below = p.below in
    record {
      late = omega (arith, at, e);
      below = omega (arith, at, e, below);
      is = p.is ∙ ap pos (let same : first + p.number ≡ first + (a - from) = omega (arith, at, e) in same);
    }

box_parts : (b : Box2) (x y : ℤ) → in_box b x y ≡ true → (in_span b.x b.w x ≡ true) × (in_span b.y b.h y ≡ true)
unfolding in_box
box_parts b x y h = let p = and_parts _ _ h in (p.0, p.1)

pub overflow_sub-x : goal.overflow_sub-x
overflow_sub-x c =
    let f : SFits w32 c.args.cell.x = search rules in
    let e : c.unsigned_abs.result ≡ unsigned_abs c.args.cell.x = simp to_z-of_z at c.unsigned_abs.ensures.value in
    let p = from_abs _ _ _ _ _ (ap (λ (b : Box2). b.x) c.area-area.ensures.area)
    (box_parts c.args.job.now.area c.args.cell.x c.args.cell.y c.requires).0 e in
    p.late

pub overflow_sub-y : goal.overflow_sub-y
overflow_sub-y c =
    let f : SFits w32 c.args.cell.y = search rules in
    let e : c.unsigned_abs-2.result ≡ unsigned_abs c.args.cell.y = simp to_z-of_z at c.unsigned_abs-2.ensures.value in
    let p = from_abs _ _ _ _ _ (ap (λ (b : Box2). b.y) c.area-area.ensures.area)
    (box_parts c.args.job.now.area c.args.cell.x c.args.cell.y c.requires).1 e in
    p.late

pub returns-clause-column : goal.returns-clause-column
returns-clause-column c = grind (arith, common_steps, from_abs, box_parts)

pub returns-clause-row : goal.returns-clause-row
returns-clause-row c = grind (arith, common_steps, from_abs, box_parts)
