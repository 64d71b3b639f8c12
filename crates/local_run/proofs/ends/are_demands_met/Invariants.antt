use Rattle.local_run.proofs.Imports.{ℕ, ◌*◌, ◌+◌, ◌-◌, ◌<◌, ◌≤◌, ◌⊎◌}
use Rattle.local_run.specs.Ends.{IsCorrectAtEnd, MustBeDead}
use Rattle.local_run.proofs.ends.are_demands_met.Given as goal

-- the cells before the place that need not be dead are what they must be
abbrev pub invariant-loop-place : goal.invariant-loop-place
invariant-loop-place l = record {
  count : (l.met ≤ l.place) × (l.place ≤ l.job.area.w * l.job.area.h);
  before : (x y : ℕ) → x < l.job.area.w → y < l.job.area.h → l.job.area.w * y + x < l.place →
      MustBeDead l.job x y ⊎ IsCorrectAtEnd l.job l.values x y;
}

abbrev pub decreases-loop-place : goal.decreases-loop-place
decreases-loop-place l = l.job.area.w * l.job.area.h - l.place
