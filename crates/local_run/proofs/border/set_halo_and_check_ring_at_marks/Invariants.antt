use Rattle.local_run.proofs.Imports.{IsEdgeCorrectAt, IsHaloCellAsSignal, ShowsRunAt, cell_number_at, trailing_zeros}
use Rattle.local_run.proofs.Imports.{true, w64, ℕ, ◌+◌, ◌-◌, ◌<◌, ◌≡◌}
use Rattle.local_run.specs.Scans.{IsSameBeforeNumber}
use Rattle.lanes.specs.Settled.{AreSettledBlocksUnchanged}
use Rattle.lanes.specs.Sweeps.{IsInRangeNotInWordRest}
use Rattle.local_run.proofs.border.set_halo_and_check_ring_at_marks.Given as goal

-- the cells of the numbers whose marks are not among the rest
abbrev pub invariant-loop-rest : goal.invariant-loop-rest
invariant-loop-rest l = record {
  shows : ShowsRunAt l.job l.values l.lines.time l.marked_planes.planes;
  halo : (x y : ℕ) → x < l.job.area.w + 2 → y < l.job.area.h + 2 →
      IsInRangeNotInWordRest l.first (l.first + 64) l.rest (cell_number_at l.job.area x y) →
      IsHaloCellAsSignal l.job l.values l.lines.time l.marked_planes.planes x y;
  right : l.is_right ≡ true → (x y : ℕ) → x < l.job.area.w + 2 → y < l.job.area.h + 2 →
      IsInRangeNotInWordRest l.first (l.first + 64) l.rest (cell_number_at l.job.area x y) →
      IsEdgeCorrectAt l.job l.values l.lines.time x y;
  settled : AreSettledBlocksUnchanged l.fn.marked_planes l.marked_planes;
  same : IsSameBeforeNumber l.job l.fn.marked_planes.planes l.marked_planes.planes l.first;
}

abbrev pub decreases-loop-rest : goal.decreases-loop-rest
decreases-loop-rest l = 64 - trailing_zeros w64 l.rest
