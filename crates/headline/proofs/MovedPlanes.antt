-- The plane of a moved design is the moved plane, at each time
use Rattle.headline.proofs.Imports.{Bool, Box2, Cell, List, Pattern, Port, [], ap, ap₂, arith, common_steps, in_cells}
use Rattle.headline.proofs.Imports.{in_rectangles, ints, list_any, map, moved, moved_by_two, port_moved_by_two, pos}
use Rattle.headline.proofs.Imports.{rectangle_moved_by_two, refl, run, start, subst, suc, zero, ℕ, ℤ, ◌&&◌, ◌+ℤ◌}
use Rattle.headline.proofs.Imports.{◌-ℤ◌, ◌||◌, ◌∷◌, ◌≡◌}
use Rattle.lemmas.proofs.Common.{int_eq}
use Rattle.bbm_rule.specs.Moves.{IsStateMovedBy}
use Rattle.bbm_rule.specs.Plane.{is_cell_at}
use Rattle.bbm_rule.proofs.Moving.{step_moved}
use Rattle.bbm_rule.specs.Boxes.{in_box}
use Rattle.pattern.specs.Layout.{in_ports_on}
use Rattle.module_box.proofs.MovedBoxes.{span_moved}

-- ---- coordinates

-- each number is two more than some number
two_more : (x : ℤ) → (x -ℤ pos 2) +ℤ pos 2 ≡ x
two_more x = omega (arith, ints)

-- what holds of each moved cell holds of each cell
pub by_moved : (P : ℤ → ℤ → Type 0) → ((x y : ℤ) → P (x +ℤ pos 2) (y +ℤ pos 2)) → (x y : ℤ) → P x y
by_moved P h x y =
    subst (λ a. P a y) (two_more x) (subst (P ((x -ℤ pos 2) +ℤ pos 2)) (two_more y) (h (x -ℤ pos 2) (y -ℤ pos 2)))

eq_moved : (a b : ℤ) → int_eq (a +ℤ pos 2) (b +ℤ pos 2) ≡ int_eq a b
eq_moved a b = grind (arith, ints)

area_moved : (r : Box2) (x y : ℤ) → in_box (rectangle_moved_by_two r) (x +ℤ pos 2) (y +ℤ pos 2) ≡ in_box r x y
unfolding in_box
area_moved r x y = grind (arith, common_steps, span_moved)

-- ---- sets of cells

pub any_map : {X Y : Type 0} (f : X → Y) (test : Y → Bool) (test' : X → Bool) → ((x : X) → test (f x) ≡ test' x) →
    (xs : List X) → list_any test (map f xs) ≡ list_any test' xs
any_map f test test' h [] = refl
any_map f test test' h (x ∷ xs) = ap₂ (λ a b. a || b) (h x) (any_map f test test' h xs)

pub is_at_moved : (c : Cell) (x y : ℤ) → is_cell_at (moved_by_two c) (x +ℤ pos 2) (y +ℤ pos 2) ≡ is_cell_at c x y
is_at_moved c x y = ap₂ (λ a b. a && b) (eq_moved c.x x) (eq_moved c.y y)

pub cells_moved : (cs : List Cell) (x y : ℤ) →
    in_cells (map moved_by_two cs) (x +ℤ pos 2) (y +ℤ pos 2) ≡ in_cells cs x y
cells_moved cs x y = any_map moved_by_two _ _ (λ c. is_at_moved c x y) cs

pub rectangles_moved : (rs : List Box2) (x y : ℤ) →
    in_rectangles (map rectangle_moved_by_two rs) (x +ℤ pos 2) (y +ℤ pos 2) ≡ in_rectangles rs x y
rectangles_moved rs x y = any_map rectangle_moved_by_two _ _ (λ r. area_moved r x y) rs

ports_on_moved : (on : List ℕ → Bool) (qs : List Port) (x y : ℤ) →
    in_ports_on on (map port_moved_by_two qs) (x +ℤ pos 2) (y +ℤ pos 2) ≡ in_ports_on on qs x y
ports_on_moved on qs x y = any_map port_moved_by_two _ _ (λ q. ap (λ b. on q.name && b) (is_at_moved q.cell x y)) qs

-- ---- the run

start_moved : (p : Pattern) (on : List ℕ → Bool) → IsStateMovedBy (pos 2) (pos 2) (start p on) (start (moved p) on)
unfolding start
start_moved p on x y = grind (arith, common_steps, rectangles_moved, cells_moved, ports_on_moved)

pub run_moved : (p : Pattern) (on : List ℕ → Bool) (t : ℕ) →
    IsStateMovedBy (pos 2) (pos 2) (run (start p on) t) (run (start (moved p) on) t)
unfolding run
run_moved p on zero = start_moved p on
run_moved p on (suc t) = grind (arith, common_steps, step_moved, (run_moved p on t))
