use Rattle.module_job.proofs.Imports.{flat_map, stop_numbers, take, ◌++◌, ◌≡◌}
use Rattle.module_job.proofs.keys.push_stops.Given as goal

abbrev pub invariant-loop-stop : goal.invariant-loop-stop
invariant-loop-stop l = l.numbers.items ≡ l.initial.numbers.items ++ flat_map stop_numbers (take l.stop-index l.stops)
