-- The faults that the edges of the modules so far name are covered.
use Rattle.border_match.proofs.Imports.{AreHaloEventMarks, IsAtEdgeEventOfAny, IsFaultOfSearchedJob, IsUpdatedCandidate}
use Rattle.border_match.proofs.Imports.{take}
use Rattle.border_match.proofs.borders.Borders.least_with_edges_of_modules.Given as goal

abbrev pub invariant-loop-number : goal.invariant-loop-number
invariant-loop-number l = record {
  better : IsUpdatedCandidate (IsFaultOfSearchedJob l.self)
      (IsAtEdgeEventOfAny (take l.number-index l.near) l.self) l.fn.best l.least;
  marked : AreHaloEventMarks l.self l.seen;
}
