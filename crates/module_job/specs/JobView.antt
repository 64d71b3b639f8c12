-- The fields of a job, and its view
use Rattle.std.specs.Prelude.{◌≡◌, length}
use Rattle.std.specs.Arc.{arc_value}
use Rattle.std.specs.List.{All}
use Rattle.circuit.specs.Meaning.{wires}
use Rattle.module_box.specs.Moves.{IsCellInShiftRange}
use Rattle.module_job.specs.Jobs.{JobView, IsJob}
use Rattle.module_job.specs.Shapes.{ShapeView, job_of_shape}
use Rattle.module_job.specs.declared.job.Job.TheInside.{Inside}

-- the shape of a job, from its fields
abbrev pub stored_shape : Inside → ShapeView
stored_shape a = arc_value a.shape

-- the view of a job: its shape, placed at its corner and over its wires and gates
abbrev pub job_view : Inside → JobView
job_view a = job_of_shape a.x a.y a.wires.items a.gates.items (stored_shape a)

-- it is a job, each of its wires has its number in the circuit, and no line of its shape is about a cell far away
pub record AreJobFields (a : Inside) : Type 0 where
  pub job : IsJob (job_view a)
  pub sized : length a.wires.items ≡ wires (stored_shape a).netlist
  pub near_edges : All (λ e. IsCellInShiftRange e.at.cell) (stored_shape a).edges.events
  pub near_halos : All (λ e. IsCellInShiftRange e.at.cell) (stored_shape a).halos.events
  pub near_stops : All (λ s. IsCellInShiftRange s.at.cell) (stored_shape a).stops
