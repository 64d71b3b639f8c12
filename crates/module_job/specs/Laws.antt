-- Laws of jobs and of their shapes
use Rattle.std.specs.Prelude.{◌≡◌, ℕ, List}
use Rattle.std.specs.Bool.{Decides}
use Rattle.module_job.specs.Equality.{same_job, same_shape}
use Rattle.module_job.specs.Jobs.{JobView}
use Rattle.module_job.specs.Shapes.{ShapeView, job_of_shape, shape_of}

-- two jobs are equal by `==` exactly if they are the same
abbrev pub JobEqualityDecides : Type 0
JobEqualityDecides = (j k : JobView) → Decides (same_job j k) (j ≡ k)

-- two shapes are equal by `==` exactly if they are the same
abbrev pub ShapeEqualityDecides : Type 0
ShapeEqualityDecides = (s t : ShapeView) → Decides (same_shape s t) (s ≡ t)

-- A job is its shape, placed where its box lies and over its wires and gates of the circuit. A shape that is placed is
-- the shape of the job that it becomes. So two jobs are the same exactly if corner, wires, gates and shape are.
pub record JobIsPlacedShape : Type 0 where
  pub whole : (j : JobView) → job_of_shape j.area.x j.area.y j.locals.circuit_wires j.locals.circuit_gates (shape_of j)
      ≡ j
  pub part : (x y : ℕ) (wires gates : List ℕ) (s : ShapeView) → shape_of (job_of_shape x y wires gates s) ≡ s
