use Rattle.lanes.proofs.Imports.{HasWordsStrideRows, IsNumberUnmarked, KeepsCellsOutsideBlocks}
use Rattle.lanes.proofs.Imports.{TurnsNumberedBlocksBetween, ◌-◌, ◌<◌, ◌≤◌}
use Rattle.lanes.proofs.planes.Planes.step_between_marks.Given as goal

-- the blocks so far are turned, and the next one has no mark
abbrev pub invariant-loop-at : goal.invariant-loop-at
invariant-loop-at l = record {
  size : HasWordsStrideRows l.fn.self.words l.fn.self.stride l.fn.self.rows l.self;
  within : l.at ≤ l.blocks;
  unmarked : l.at < l.blocks → IsNumberUnmarked l.marks l.at;
  turned : TurnsNumberedBlocksBetween l.partition 0 l.at l.fn.self l.self;
  first : KeepsCellsOutsideBlocks l.partition l.fn.self l.self;
}

abbrev pub decreases-loop-at : goal.decreases-loop-at
decreases-loop-at l = l.blocks - l.at
