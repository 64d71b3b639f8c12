-- The stops of a module over its wires
use Rattle.std.specs.Prelude.{◌≡◌, ◌<◌, List, map}
use Rattle.std.specs.List.{All}
use Rattle.circuit.specs.Meaning.{Circuit, wires}
use Rattle.module_box.specs.Locals.{LocalNet, circuit_wire}
use Rattle.certificate.specs.Jobs.{stops_of_lines}
use Rattle.module_job.specs.Signals.{renumber_stop}
use Rattle.certificate_lines.specs.StoredModules.{cell_at}
use Rattle.certificate_lines.specs.declared.certificate_line.StopLine.{StopLine}
use Rattle.certificate_lines.specs.declared.stored_module.StoredStop.{StoredStop}
use Rattle.module_job.specs.declared.job.Stop.{Stop}

-- the stop of a line that is kept
abbrev pub stored_stop : StoredStop → Stop
stored_stop s = record { at = record { time = s.time; cell = cell_at s.column s.row }; wire = s.wire }

-- the stops are what the lines say, and each wire is one of the module's
pub record AreStopsOfLines (c : Circuit) (l : LocalNet) (ss : List StopLine) (stops : List Stop) : Type 0 where
  pub same : map (renumber_stop (circuit_wire l)) stops ≡ stops_of_lines c ss
  pub own : All (λ s. s.wire < wires l.netlist) stops
