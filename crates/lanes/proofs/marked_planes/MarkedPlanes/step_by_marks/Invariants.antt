use Rattle.lanes.proofs.Imports.{Even, HasWordsStrideRows, ◌*◌, ◌≡◌, ◌≤◌}
use Rattle.lanes.proofs.FieldLemmas.{TurnsBelow}
use Rattle.lanes.specs.Settled.{AreSettledBlocksUnchanged}
use Rattle.lanes.proofs.marked_planes.MarkedPlanes.step_by_marks.Given as goal

-- the blocks so far are turned
abbrev pub invariant-loop-k : goal.invariant-loop-k
invariant-loop-k l = record {
  size : HasWordsStrideRows l.fn.self.planes.words l.fn.self.planes.stride l.fn.self.planes.rows l.self.planes;
  stays : l.changed ≡ 0 → l.self.planes ≡ l.fn.self.planes;
  settled : l.partition ≡ Even → AreSettledBlocksUnchanged l.fn.self l.self;
  count : (l.changed ≤ 64 * l.k) × (l.changed ≤ l.blocks);
  turned : TurnsBelow l.partition (64 * l.k) l.blocks l.fn.self.planes l.self.planes;
}
