use Rattle.lanes.proofs.Imports.{HasRoomForAllBlockMarks, ◌≡◌}
use Rattle.lanes.proofs.frozen.FrozenBlocks.mark_empty.Given as goal

-- there is still room for all marks
abbrev pub invariant-loop-u : goal.invariant-loop-u
invariant-loop-u l = record {
  room : HasRoomForAllBlockMarks l.self l.planes;
  found : l.self.is_found ≡ l.fn.self.is_found;
}
