-- No job before has the same shape.
use Rattle.module_job.proofs.Imports.{arc_value, map, shape_of, slice_get, ℕ, ◌<◌, ◌≢◌}
use Rattle.module_job.proofs.groups.first_job_of_same_shape.Given as goal

abbrev pub invariant-loop-earlier : goal.invariant-loop-earlier
invariant-loop-earlier l = (i : ℕ) → i < l.earlier →
    slice_get (map shape_of (map arc_value l.jobs)) i ≢ slice_get (map shape_of (map arc_value l.jobs)) l.number
