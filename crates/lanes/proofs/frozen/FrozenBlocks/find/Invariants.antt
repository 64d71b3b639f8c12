use Rattle.lanes.proofs.Imports.{HasRoomForAllBlockMarks, false, ◌≡◌}
use Rattle.lanes.proofs.frozen.FrozenBlocks.find.Given as goal

-- there is still room for all marks
abbrev pub invariant-sweeps : goal.invariant-sweeps
invariant-sweeps l = record {
  room : HasRoomForAllBlockMarks l.self l.planes;
  found : l.self.is_found ≡ false;
}
