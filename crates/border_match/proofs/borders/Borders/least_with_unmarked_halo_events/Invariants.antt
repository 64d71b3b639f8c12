use Rattle.border_match.proofs.Imports.{IsAtUnmarkedEventBelow, IsFaultOfSearchedJob, IsUpdatedCandidate}
use Rattle.border_match.proofs.borders.Borders.least_with_unmarked_halo_events.Given as goal

abbrev pub invariant-loop-place : goal.invariant-loop-place
invariant-loop-place l = IsUpdatedCandidate (IsFaultOfSearchedJob l.self)
    (IsAtUnmarkedEventBelow l.place l.seen l.self.job.now.halos.events) l.fn.best l.least
