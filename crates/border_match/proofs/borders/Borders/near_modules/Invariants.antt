-- The cells of the rows so far are noted.
use Rattle.border_match.proofs.Imports.{AreModuleNumbers, AreOwnersListedInRows, ◌-◌}
use Rattle.border_match.proofs.borders.Borders.near_modules.Given as goal

abbrev pub invariant-loop-y : goal.invariant-loop-y
invariant-loop-y l = record {
  noted : AreOwnersListedInRows l.self l.near.items (l.self.job.now.area.y - 1) l.y;
  below : AreModuleNumbers l.self l.near.items;
}

abbrev pub decreases-loop-y : goal.decreases-loop-y
decreases-loop-y l = l.end - l.y
