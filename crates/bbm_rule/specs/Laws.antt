-- The statements of this crate's laws
use Rattle.std.specs.Ordering.{int_eq}
use Rattle.std.specs.List.{range_with_len}
use Rattle.std.specs.Prelude.{true, false, pos, ◌&&◌, ◌||◌, if◌then◌else◌, [], ◌∷◌, ◌++◌, ◌≡◌, ℕ, ℤ, List, map}
use Rattle.bbm_rule.specs.Plane.{State, partner, step, run}
use Rattle.bbm_rule.specs.Words.{turned_block_number}

-- what the blocks 0 to 15 become
abbrev pub TurnTable : Type 0
TurnTable =
    map turned_block_number (range_with_len 0 16)
    ≡ 0 ∷ 8 ∷ 4 ∷ 3 ∷ 2 ∷ 5 ∷ 9 ∷ 7 ∷ 1 ∷ 6 ∷ 10 ∷ 11 ∷ 12 ∷ 13 ∷ 14 ∷ 15 ∷ []

-- at time t the block of (x, y) has two balls, in that cell and in the opposite one
pub record MeetsHeadOn (t : ℕ) (s : State) (x y : ℤ) : Type 0 where
  pub here : s x y ≡ true
  pub opposite : s (partner t x) (partner t y) ≡ true
  pub beside : s (partner t x) y ≡ false
  pub below : s x (partner t y) ≡ false

-- after the step the other two cells of the block are live
pub record LeavesAtRightAngles (t : ℕ) (s : State) (x y : ℤ) : Type 0 where
  pub here : step t s x y ≡ false
  pub opposite : step t s (partner t x) (partner t y) ≡ false
  pub beside : step t s (partner t x) y ≡ true
  pub below : step t s x (partner t y) ≡ true

-- in each block of the plane, at each time, two balls that meet head-on leave at right angles
abbrev pub TwoBallsLeaveAtRightAngles : Type 0
TwoBallsLeaveAtRightAngles = (t : ℕ) (s : State) (x y : ℤ) → MeetsHeadOn t s x y → LeavesAtRightAngles t s x y

-- the live cells are (2, 2) and (5, 5)
abbrev pub two_balls : State
two_balls x y = (int_eq x (pos 2) && int_eq y (pos 2)) || (int_eq x (pos 5) && int_eq y (pos 5))

-- the live cells of row y among the columns of a list
abbrev pub live_in_row : State → ℕ → List ℕ → List (ℕ × ℕ)
live_in_row s y [] = []
live_in_row s y (x ∷ xs) = if s (pos x) (pos y) then (x, y) ∷ live_in_row s y xs else live_in_row s y xs

-- the live cells among the columns and the rows of two lists, row by row
abbrev pub live_cells : State → List ℕ → List ℕ → List (ℕ × ℕ)
live_cells s xs [] = []
live_cells s xs (y ∷ ys) = live_in_row s y xs ++ live_cells s xs ys

-- Balls at (2, 2) and (5, 5) collide. At time 3 the live cells among those with coordinates below 8 are (5, 2) and (2,
-- 5)
abbrev pub TwoBallsCollide : Type 0
TwoBallsCollide =
    live_cells (run two_balls 3) (range_with_len 0 8) (range_with_len 0 8) ≡ (5, 2) ∷ (2, 5) ∷ []

-- a second step at one time gives the state before the first
abbrev pub StepUndoesItself : Type 0
StepUndoesItself = (t : ℕ) (s : State) (x y : ℤ) → step t (step t s) x y ≡ s x y
