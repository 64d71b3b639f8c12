use Rattle.lanes.proofs.Imports.{◌≡◌}
use Rattle.lanes.specs.Settled.{AreSettledBlocksUnchanged}
use Rattle.lanes.proofs.marked_planes.MarkedPlanes.unmark_all_dead.Given as goal

abbrev pub invariant-loop-u : goal.invariant-loop-u
invariant-loop-u l = record {
  planes : l.self.planes ≡ l.fn.self.planes;
  settled : AreSettledBlocksUnchanged l.fn.self l.self;
}
