-- The stops so far are noted.
use Rattle.certificate.proofs.Imports.{All, Circuit, IsCircuitWire, IsStopTimeTable, List, StopLine, length, map}
use Rattle.certificate.proofs.Imports.{stop_line, take, ◌++◌, ◌≡◌}
use Rattle.certificate.proofs.times.note_times_of_stops.Given as goal

abbrev pub invariant-loop-stop : goal.invariant-loop-stop
invariant-loop-stop l = record {
  table : (c : Circuit) (ss : List StopLine) → All (λ s. IsCircuitWire c s.wire) l.stops →
      IsStopTimeTable l.choice c ss l.fn.table →
      IsStopTimeTable l.choice c (ss ++ map (stop_line c) (take l.stop-index l.stops)) l.table;
  long : length l.table ≡ length l.fn.table;
}
