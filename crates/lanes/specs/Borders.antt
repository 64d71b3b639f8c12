-- Cells of planes that are neither in the ring of a box nor in its halo
use Rattle.std.specs.Prelude.{ℕ, ◌+◌, ◌*◌, ◌<◌, ◌≤◌, ◌⊎◌, List}
use Rattle.std.proofs.Props.{props}
use Rattle.bbm_rule.specs.Marks.{IsNumberUnmarked}
use Rattle.lanes.specs.Calm.{AreNumberedCellsDead}
use Rattle.lanes.specs.declared.planes.Planes.{Planes}

-- the cells in this column and row of planes of this many columns and rows are neither in the ring nor in the halo
abbrev pub IsAwayFromBorder : ℕ → ℕ → ℕ → ℕ → Type 0
IsAwayFromBorder stride rows column row = (0 < column) × (column + 1 < stride) × (0 < row) × (row + 1 < rows)

-- so are those of all numbers, but for those with a mark
abbrev pub AreBorderNumbersMarked : ℕ → ℕ → List ℕ → Type 0
AreBorderNumbersMarked stride rows marks = (column row : ℕ) → column < stride → row < rows →
    IsNumberUnmarked marks (stride * row + column) → IsAwayFromBorder stride rows column row

-- from one number to another, each has cells that are neither in the ring nor in the halo, or that are dead and have no
-- mark
abbrev pub AreNumbersSkippableBetween : ℕ → ℕ → List ℕ → Planes → Type 0
AreNumbersSkippableBetween from to marks p =
    (column row : ℕ) → column < p.stride → row < p.rows → from ≤ p.stride * row + column →
    p.stride * row + column < to →
    IsAwayFromBorder p.stride p.rows column row
    ⊎ (AreNumberedCellsDead (p.stride * row + column) p × IsNumberUnmarked marks (p.stride * row + column))

-- any two proofs of `AreBorderNumbersMarked` are equal
pub AreBorderNumbersMarked-prop : (stride rows : ℕ) (marks : List ℕ) →
    IsProp (AreBorderNumbersMarked stride rows marks)
AreBorderNumbersMarked-prop stride rows marks = Prim.hlevel props
