use Rattle.local_run.proofs.Imports.{IsEdgeCorrectAt, IsHaloCellAsSignal, ShowsRunAt, cell_number_at, true, ℕ, ◌*◌, ◌+◌}
use Rattle.local_run.proofs.Imports.{◌<◌, ◌≡◌}
use Rattle.local_run.specs.Steady.{MatchesStarsWhereSettled}
use Rattle.local_run.proofs.border.set_halo_and_check_ring.Given as goal

-- the cells of the numbers so far
abbrev pub invariant-loop-k : goal.invariant-loop-k
invariant-loop-k l = record {
  shows : ShowsRunAt l.job l.values l.lines.time l.marked_planes.planes;
  steady : MatchesStarsWhereSettled l.job l.values l.marked_planes l.lines.last_event_marks.items;
  halo : (x y : ℕ) → x < l.job.area.w + 2 → y < l.job.area.h + 2 → cell_number_at l.job.area x y < 64 * l.k →
      IsHaloCellAsSignal l.job l.values l.lines.time l.marked_planes.planes x y;
  right : l.is_right ≡ true → (x y : ℕ) → x < l.job.area.w + 2 → y < l.job.area.h + 2 →
      cell_number_at l.job.area x y < 64 * l.k → IsEdgeCorrectAt l.job l.values l.lines.time x y;
}
