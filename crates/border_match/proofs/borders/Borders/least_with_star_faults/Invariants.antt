-- The cells of halo lines, and of edge lines of the modules so far, are covered.
use Rattle.border_match.proofs.Imports.{DiffersAtStarOfAny, IsFaultOfSearchedJob, IsUpdatedCandidate, take}
use Rattle.border_match.proofs.borders.Borders.least_with_star_faults.Given as goal

abbrev pub invariant-loop-number : goal.invariant-loop-number
invariant-loop-number l = IsUpdatedCandidate (IsFaultOfSearchedJob l.self)
    (DiffersAtStarOfAny (take l.number-index l.near) l.self) l.fn.best l.least
