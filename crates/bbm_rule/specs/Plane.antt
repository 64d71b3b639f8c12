-- The billiard ball model on the unbounded plane: its blocks (the Margolus neighbourhood), one step, a run
use Rattle.std.specs.Prelude.{ℕ, zero, suc, ℤ, pos, negsuc, ◌+ℤ◌, ◌-ℤ◌, ◌+◌, ◌%◌, ◌==◌, ◌&&◌, ◌||◌, Bool, not}
use Rattle.std.specs.Prelude.{if◌then◌else◌}
use Rattle.std.specs.Ordering.{int_eq}
use Rattle.bbm_rule.specs.declared.block.Cell.{Cell}

-- a state of the plane: which cells are live
abbrev pub State : Type 0
State = ℤ → ℤ → Bool

-- whether the cell is (x, y)
abbrev pub is_cell_at : Cell → State
is_cell_at c x y = int_eq c.x x && int_eq c.y y

-- 0 for an even number, 1 for an odd one
abbrev pub parity : ℤ → ℕ
parity (pos n) = n % 2
parity (negsuc n) = (n + 1) % 2

-- The step at time t cuts the plane into blocks of two by two cells. If t is even, both coordinates of a block's upper
-- left corner are even. If t is odd, both are odd. So a coordinate that is even or odd as t is, is the lesser one of
-- its block's two. This gives the other one
unfoldable pub partner : ℕ → ℤ → ℤ
partner t x = if parity x == t % 2 then x +ℤ pos 1 else x -ℤ pos 1

-- 1 for a live cell, 0 for a dead one
abbrev pub one_if : Bool → ℕ
one_if live = if live then 1 else 0

-- A cell after the step, by the cells of its block before: the cell itself, the diagonally opposite one, the two beside
-- it. A single live cell moves to the opposite corner. Two that lie on one diagonal turn to the other diagonal. Every
-- other block stays as it is
unfoldable pub turned : Bool → Bool → Bool → Bool → Bool
turned here opposite beside beside' =
    let count = one_if here + one_if opposite + one_if beside + one_if beside' in
    if count == 1 then opposite
    else if (count == 2) && ((here && opposite) || (beside && beside')) then not here
    else here

-- the state after the step at time t
unfoldable pub step : ℕ → State → State
step t s x y = turned (s x y) (s (partner t x) (partner t y)) (s (partner t x) y) (s x (partner t y))

-- the state at time t of the run that begins with s
unfoldable pub run : State → ℕ → State
run s zero = s
run s (suc t) = step t (run s t)
