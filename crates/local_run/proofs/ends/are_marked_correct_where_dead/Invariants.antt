use Rattle.local_run.proofs.Imports.{cell_number_at, trailing_zeros, w64, ℕ, ◌+◌, ◌-◌, ◌<◌}
use Rattle.lanes.specs.Sweeps.{IsInRangeNotInWordRest}
use Rattle.local_run.specs.Ends.{IsCorrectIfDead}
use Rattle.local_run.proofs.ends.are_marked_correct_where_dead.Given as goal

-- the cells of the numbers whose marks are not among the rest
abbrev pub invariant-loop-rest : goal.invariant-loop-rest
invariant-loop-rest l = (x y : ℕ) → x < l.job.area.w + 2 → y < l.job.area.h + 2 →
    IsInRangeNotInWordRest l.first (l.first + 64) l.rest (cell_number_at l.job.area x y) →
    IsCorrectIfDead l.job l.values x y

abbrev pub decreases-loop-rest : goal.decreases-loop-rest
decreases-loop-rest l = 64 - trailing_zeros w64 l.rest
