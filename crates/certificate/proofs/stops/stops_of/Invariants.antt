-- The stops so far.
use Rattle.certificate.proofs.Imports.{All, circuit_wire, map, stored_stop, take, wires, ◌<◌, ◌≡◌}
use Rattle.module_job.specs.Signals.{renumber_stop}
use Rattle.certificate.proofs.stops.stops_of.Given as goal

abbrev pub invariant-loop-stop : goal.invariant-loop-stop
invariant-loop-stop l = record {
  same : map (renumber_stop (circuit_wire l.locals)) l.local.items ≡ map stored_stop (take l.stop-index l.stops);
  own : All (λ s. s.wire < wires l.locals.netlist) l.local.items;
}
