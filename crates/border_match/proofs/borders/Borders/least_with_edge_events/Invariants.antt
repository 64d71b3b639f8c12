use Rattle.border_match.proofs.Imports.{AreHaloEventMarks, IsAtSomeEventBelow, IsFaultOfSearchedJob, IsUpdatedCandidate}
use Rattle.border_match.proofs.Imports.{length, ◌-◌}
use Rattle.border_match.proofs.borders.Borders.least_with_edge_events.Given as goal

abbrev pub invariant-loop-place : goal.invariant-loop-place
invariant-loop-place l = record {
  better : IsUpdatedCandidate (IsFaultOfSearchedJob l.self)
      (IsAtSomeEventBelow l.place l.other.edges.events) l.fn.best l.least;
  marked : AreHaloEventMarks l.self l.seen;
}

abbrev pub decreases-loop-place : goal.decreases-loop-place
decreases-loop-place l = length l.events - l.place
