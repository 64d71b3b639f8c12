-- States of the plane that differ only in their place
use Rattle.std.specs.Prelude.{◌≡◌, ℕ, ℤ, ◌+ℤ◌}
use Rattle.bbm_rule.specs.Plane.{State, parity, step}

-- s' is s moved by dx columns and dy rows
abbrev pub IsStateMovedBy : ℤ → ℤ → State → State → Type 0
IsStateMovedBy dx dy s s' = (x y : ℤ) → s' (x +ℤ dx) (y +ℤ dy) ≡ s x y

-- If both numbers are even, the blocks of each time move onto blocks of the same time, so a step moves along.
abbrev pub StepCommutesWithEvenMoves : Type 0
StepCommutesWithEvenMoves = (t : ℕ) (dx dy : ℤ) (s s' : State) → parity dx ≡ 0 → parity dy ≡ 0 →
    IsStateMovedBy dx dy s s' →
    IsStateMovedBy dx dy (step t s) (step t s')
