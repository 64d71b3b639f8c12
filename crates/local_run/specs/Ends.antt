-- The cells of a box at the last time
use Rattle.std.specs.Prelude.{◌≡◌, ℕ, ◌+◌, ◌/◌, ◌<◌, ◌≤◌}
use Rattle.module_job.specs.Jobs.{JobView, job_demand}
use Rattle.module_job.specs.declared.job.Demand.TheVariants.{Dead}
use Rattle.local_run.specs.Faults.{assignments}
use Rattle.local_run.specs.Places.{box_coord}
use Rattle.local_run.specs.Quiet.{cell_number_at}
use Rattle.local_run.specs.Scans.{IsDefinedAndHasFault}
use Rattle.local_run.specs.declared.fault.Kind.TheVariants.{End}
use Rattle.local_run.specs.declared.values.Values.{Values}

-- the cell at a column and row of the box must be dead at the last time
abbrev pub MustBeDead : JobView → ℕ → ℕ → Type 0
MustBeDead j x y = job_demand j (box_coord j.area.x x) (box_coord j.area.y y) ≡ Dead

-- it has no fault then, wherever each used gate has a row
abbrev pub IsCorrectAtEnd : JobView → Values → ℕ → ℕ → Type 0
IsCorrectAtEnd j vs x y = (a : ℕ) → a < assignments j →
    ¬ IsDefinedAndHasFault j vs a j.steps End (box_coord j.area.x x) (box_coord j.area.y y)

-- a cell, counted from the halo, has no fault then, if it is in the box and must be dead
abbrev pub IsCorrectIfDead : JobView → Values → ℕ → ℕ → Type 0
IsCorrectIfDead j vs x y = (k m : ℕ) → x ≡ 1 + k → y ≡ 1 + m → k < j.area.w → m < j.area.h → MustBeDead j k m →
    IsCorrectAtEnd j vs k m

-- so do those in this column and row of the planes
abbrev pub AreCorrectWhereDeadAtPlace : JobView → Values → ℕ → ℕ → Type 0
AreCorrectWhereDeadAtPlace j vs column row =
    (x y : ℕ) → x < j.area.w + 2 → y < j.area.h + 2 → x / 2 ≡ column → y / 2 ≡ row → IsCorrectIfDead j vs x y

-- and those with a number from one to another
abbrev pub AreCorrectWhereDeadBetweenNumbers : JobView → Values → ℕ → ℕ → Type 0
AreCorrectWhereDeadBetweenNumbers j vs from end =
    (x y : ℕ) → x < j.area.w + 2 → y < j.area.h + 2 → from ≤ cell_number_at j.area x y →
    cell_number_at j.area x y < end → IsCorrectIfDead j vs x y
