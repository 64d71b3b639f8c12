-- The stops of the modules so far are noted.
use Rattle.certificate.proofs.Imports.{IsStopTimeTable, all_stops, circuit_of, length, map, module_lines, take, ◌≡◌}
use Rattle.certificate.proofs.times.stop_time_table.Given as goal

abbrev pub invariant-loop-module : goal.invariant-loop-module
invariant-loop-module l = record {
  table : IsStopTimeTable l.choice (circuit_of l.circuit)
      (all_stops (map (module_lines (circuit_of l.circuit)) (take l.module-index l.modules))) l.table.items;
  long : length l.table.items ≡ length (circuit_of l.circuit).names;
}
