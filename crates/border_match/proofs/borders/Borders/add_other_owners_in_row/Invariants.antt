-- The cells of the columns so far are noted, as far down as the boxes of their owners.
use Rattle.border_match.proofs.Imports.{AreModuleNumbers, AreOwnersListedToColumn, KeepsAllModuleNumbers, ◌-◌, ◌<◌}
use Rattle.border_match.proofs.borders.Borders.add_other_owners_in_row.Given as goal

abbrev pub invariant-loop-x : goal.invariant-loop-x
invariant-loop-x l = record {
  noted : AreOwnersListedToColumn l.self l.near.items l.y l.next l.x;
  after : l.y < l.next;
  kept : KeepsAllModuleNumbers l.fn.near.items l.near.items;
  below : AreModuleNumbers l.self l.near.items;
}

abbrev pub decreases-loop-x : goal.decreases-loop-x
decreases-loop-x l = l.end - l.x
