-- No shape before is the same.
use Rattle.module_job.proofs.Imports.{arc_value, map, slice_get, ℕ, ◌<◌, ◌≢◌}
use Rattle.module_job.proofs.groups.first_equal_shape_number.Given as goal

abbrev pub invariant-loop-earlier : goal.invariant-loop-earlier
invariant-loop-earlier l = (i : ℕ) → i < l.earlier →
    slice_get (map arc_value l.shapes) i ≢ slice_get (map arc_value l.shapes) l.number
