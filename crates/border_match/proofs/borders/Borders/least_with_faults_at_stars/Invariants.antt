-- The cells of the lines so far are covered.
use Rattle.border_match.proofs.Imports.{DiffersAtStarBelow, IsFaultOfSearchedJob, IsUpdatedCandidate, map}
use Rattle.border_match.proofs.Imports.{moved_all_times, pos}
use Rattle.border_match.proofs.borders.Borders.least_with_faults_at_stars.Given as goal

abbrev pub invariant-loop-place : goal.invariant-loop-place
invariant-loop-place l = IsUpdatedCandidate (IsFaultOfSearchedJob l.self)
    (DiffersAtStarBelow l.place l.self (map (moved_all_times (pos l.corner.x) (pos l.corner.y)) l.stars)) l.fn.best
    l.least
