use Rattle.module_box.proofs.Imports.{slice_index, ℕ, ◌<◌, ◌≡◌}
use Rattle.module_box.proofs.taking.first_free_place.Given as goal

abbrev pub invariant-loop-place : goal.invariant-loop-place
invariant-loop-place l = (k : ℕ) → k < l.place → ¬ (slice_index l.table k ≡ l.free)
