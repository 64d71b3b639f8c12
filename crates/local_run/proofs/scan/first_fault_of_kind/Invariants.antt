use Rattle.local_run.proofs.Imports.{IsDefinedAndHasFault, assignments, box_coord, ℕ, ◌+◌, ◌-◌, ◌<◌, ◌≡◌, ◌≤◌, ◌⊎◌}
use Rattle.local_run.proofs.scan.first_fault_of_kind.Given as goal

-- no fault in the rows so far
abbrev pub invariant-rows : goal.invariant-rows
invariant-rows l = (x y a : ℕ) → x < l.job.area.w → y < l.y → a < assignments l.job →
    ¬ IsDefinedAndHasFault l.job l.values a l.search.time l.search.kind (box_coord l.job.area.x x)
    (box_coord l.job.area.y y)

-- nor in the row's cells so far
abbrev pub invariant-cells : goal.invariant-cells
invariant-cells l = record {
  rows : (x y a : ℕ) → x < l.job.area.w → y < l.y → a < assignments l.job →
      ¬ IsDefinedAndHasFault l.job l.values a l.search.time l.search.kind (box_coord l.job.area.x x)
      (box_coord l.job.area.y y);
  cells : (x a : ℕ) → x < l.x → x < l.job.area.w → a < assignments l.job →
      ¬ IsDefinedAndHasFault l.job l.values a l.search.time l.search.kind (box_coord l.job.area.x x)
      (box_coord l.job.area.y l.y);
  at : (l.stride ≡ 1) ⊎ ((l.x ≡ 0) ⊎ (l.width ≤ l.x + 1));
}

abbrev pub decreases-cells : goal.decreases-cells
decreases-cells l = l.width - l.x
