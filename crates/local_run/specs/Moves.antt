-- Jobs of the same shape, and their faults
use Rattle.std.specs.Prelude.{◌≡◌, ℤ, pos, ◌-ℤ◌, Option}
use Rattle.std.specs.Option.{option_map}
use Rattle.module_box.specs.Moves.{moved_cell}
use Rattle.module_job.specs.Jobs.{JobView, IsJob}
use Rattle.module_job.specs.Shapes.{shape_of}
use Rattle.local_run.specs.Faults.{IsFault, IsLeastFault, IsLeastKeepFault}
use Rattle.local_run.specs.declared.fault.Fault.{Fault}
use Rattle.local_run.specs.declared.fault.KeepFault.{KeepFault}

-- how many columns the box of k lies to the right of that of j, and how many rows below
abbrev pub columns_between : JobView → JobView → ℤ
columns_between j k = pos k.area.x -ℤ pos j.area.x

-- how many rows the box of the second job lies below that of the first
abbrev pub rows_between : JobView → JobView → ℤ
rows_between j k = pos k.area.y -ℤ pos j.area.y

-- the fault at the place in the box of k that f has in the box of j
abbrev pub fault_moved_to_job : JobView → JobView → Fault → Fault
fault_moved_to_job j k f = record {
  time = f.time;
  kind = f.kind;
  cell = moved_cell (columns_between j k) (rows_between j k) f.cell;
  assignment = f.assignment;
}

-- ---- laws: jobs of the same shape have the same faults but for where they lie, and the least one moves along
-- Jobs of one shape have the same faults, moved to where each job lies.
abbrev pub FaultsMoveWithJob : Type 0
FaultsMoveWithJob = (j k : JobView) (f : Fault) → IsJob j → IsJob k → shape_of j ≡ shape_of k → IsFault j f →
    IsFault k (fault_moved_to_job j k f)

-- The least fault of a job is that of another job of its shape, moved.
abbrev pub LeastFaultMovesWithJob : Type 0
LeastFaultMovesWithJob = (j k : JobView) (o : Option Fault) → IsJob j → IsJob k → shape_of j ≡ shape_of k →
    IsLeastFault j o → IsLeastFault k (option_map (fault_moved_to_job j k) o)

-- and they have the same least keep fault
abbrev pub SameShapeSameLeastKeepFault : Type 0
SameShapeSameLeastKeepFault = (j k : JobView) (o : Option KeepFault) → shape_of j ≡ shape_of k → IsLeastKeepFault j o →
    IsLeastKeepFault k o
