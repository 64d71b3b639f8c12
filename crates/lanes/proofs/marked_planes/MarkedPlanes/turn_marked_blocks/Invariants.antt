use Rattle.lanes.proofs.Imports.{Even, HasWordsStrideRows, IsPassedBlock, TurnsBlocksSatisfying, trailing_zeros, w64}
use Rattle.lanes.proofs.Imports.{◌+◌, ◌-◌, ◌≡◌, ◌≤◌}
use Rattle.lanes.specs.Settled.{AreSettledBlocksUnchanged}
use Rattle.lanes.proofs.marked_planes.MarkedPlanes.turn_marked_blocks.Given as goal

-- the blocks are turned whose marks are not among the rest
abbrev pub invariant-loop-rest : goal.invariant-loop-rest
invariant-loop-rest l = record {
  size : HasWordsStrideRows l.fn.self.planes.words l.fn.self.planes.stride l.fn.self.planes.rows l.self.planes;
  stays : l.changed ≡ 0 → l.self.planes ≡ l.fn.self.planes;
  settled : l.partition ≡ Even → AreSettledBlocksUnchanged l.fn.self l.self;
  count : (l.changed ≤ trailing_zeros w64 l.rest) × (l.first + l.changed ≤ l.end);
  turned : TurnsBlocksSatisfying l.partition (IsPassedBlock l.partition l.fn.self.planes.stride l.first l.end l.rest)
      l.fn.self.planes l.self.planes;
}

abbrev pub decreases-loop-rest : goal.decreases-loop-rest
decreases-loop-rest l = 64 - trailing_zeros w64 l.rest
