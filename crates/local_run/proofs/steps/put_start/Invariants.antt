use Rattle.local_run.proofs.Imports.{HasWordsStrideRows, assignments, box_coord, false, lane, local_run, valuation, ℕ}
use Rattle.local_run.proofs.Imports.{◌*◌, ◌+◌, ◌-◌, ◌/◌, ◌<◌, ◌≡◌, ◌≤◌}
use Rattle.lanes.specs.Settled.{AreSettledBlocksUnchanged}
use Rattle.local_run.proofs.steps.put_start.Given as goal

-- the cells before the place are as the run begins, and all others are dead
abbrev pub invariant-loop-place : goal.invariant-loop-place
invariant-loop-place l = record {
  settled : AreSettledBlocksUnchanged l.fn.marked_planes l.marked_planes;
  size : HasWordsStrideRows l.values.words (l.job.area.w / 2 + 1) (l.job.area.h / 2 + 1) l.marked_planes.planes;
  count : (l.put ≤ l.place) × (l.place ≤ l.job.area.w * l.job.area.h);
  before : (a x y : ℕ) → a < assignments l.job → x < l.job.area.w → y < l.job.area.h → l.job.area.w * y + x < l.place →
      lane l.marked_planes.planes a (1 + x) (1 + y)
      ≡ local_run l.job (valuation l.values a) 0 (box_coord l.job.area.x x) (box_coord l.job.area.y y);
  from : (a x y : ℕ) → a < 64 * l.values.words → x < l.job.area.w → y < l.job.area.h → l.place ≤ l.job.area.w * y + x →
      lane l.marked_planes.planes a (1 + x) (1 + y) ≡ false;
}

abbrev pub decreases-loop-place : goal.decreases-loop-place
decreases-loop-place l = l.job.area.w * l.job.area.h - l.place
