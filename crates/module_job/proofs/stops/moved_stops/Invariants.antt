use Rattle.module_job.proofs.Imports.{map, moved_stop, take, ◌≡◌}
use Rattle.module_job.proofs.stops.moved_stops.Given as goal

abbrev pub invariant-loop-stop : goal.invariant-loop-stop
invariant-loop-stop l = l.moved.items ≡ map (moved_stop l.dx l.dy) (take l.stop-index l.stops)
