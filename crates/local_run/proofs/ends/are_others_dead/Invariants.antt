use Rattle.local_run.proofs.Imports.{cell_number_at, ℕ, ◌*◌, ◌+◌, ◌<◌}
use Rattle.local_run.specs.Ends.{IsCorrectIfDead}
use Rattle.local_run.proofs.ends.are_others_dead.Given as goal

-- the cells of the numbers so far
abbrev pub invariant-loop-k : goal.invariant-loop-k
invariant-loop-k l = (x y : ℕ) → x < l.job.area.w + 2 → y < l.job.area.h + 2 →
    cell_number_at l.job.area x y < 64 * l.k →
    IsCorrectIfDead l.job l.values x y
