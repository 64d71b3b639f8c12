use Rattle.certificate.proofs.Imports.{last_times, take, time_in_table, ◌≡◌}
use Rattle.certificate.proofs.times.last_times.Given as goal

abbrev pub invariant-loop-wire : goal.invariant-loop-wire
invariant-loop-wire l = l.times.items ≡ last_times (time_in_table l.lasts) (take l.wire-index l.wires)
