use Rattle.lanes.proofs.Imports.{HasRoomForAllBlockMarks, ◌≡◌, ◌≤◌}
use Rattle.lanes.proofs.frozen.FrozenBlocks.unmark_unheld.Given as goal

-- there is still room for all marks, and no more blocks are counted than were looked at
abbrev pub invariant-loop-u : goal.invariant-loop-u
invariant-loop-u l = record {
  room : HasRoomForAllBlockMarks l.self l.planes;
  found : l.self.is_found ≡ l.fn.self.is_found;
  few : l.active_block_count ≤ l.u;
}
