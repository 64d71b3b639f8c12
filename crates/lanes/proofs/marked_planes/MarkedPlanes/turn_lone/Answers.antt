use Rattle.lanes.proofs.Imports.{subst, sym}
use Rattle.lanes.specs.Settled.{AreSettledBlocksUnchanged}
use Rattle.lanes.specs.declared.marked_planes.MarkedPlanes.{MarkedPlanes}
use Rattle.lanes.proofs.SettledLemmas.{settled_twice}
use Rattle.lanes.proofs.marked_planes.MarkedPlanes.turn_lone.Goals as goal
use Rattle.lanes.proofs.marked_planes.MarkedPlanes.turn_lone.Goals.{in-Even-Main+else-unmark_even_block_if_dead}
use Rattle.lanes.proofs.marked_planes.MarkedPlanes.turn_lone.Goals.{in-Even+in-Anti-1, in-Odd-1}

pub returns-in_default-partition-clause-settled_if_even : goal.returns-in_default-partition-clause-settled_if_even
returns-in_default-partition-clause-settled_if_even c = λ even.
    let old = c.args.self.now in
    let new = c.swap_lone.new.self in
    let swapped = c.swap_lone.ensures.settled_if_even even in
    elim c.match-partition.branch [
      | in-Even-Main+else-unmark_even_block_if_dead w ↦
          settled_twice old c.match-partition.self new
          (subst (AreSettledBlocksUnchanged old) (sym w.self-is) w.unmark_even_block_if_dead.ensures.settled) swapped
      | in-Even+in-Anti-1 w ↦ subst (λ (m : MarkedPlanes). AreSettledBlocksUnchanged m new) w.self-is swapped
      | in-Odd-1 w ↦ subst (λ (m : MarkedPlanes). AreSettledBlocksUnchanged m new) w.self-is swapped
    ]
