use Rattle.lanes.proofs.Imports.{◌*◌}
use Rattle.lanes.proofs.FrozenLemmas.{marked_stable}
use Rattle.lanes.proofs.frozen.FrozenBlocks.mark_active_blocks.Goals as goal

pub returns-else-self-clause-unmarked_blocks_stable : goal.returns-else-self-clause-unmarked_blocks_stable
returns-else-self-clause-unmarked_blocks_stable c =
    let p = c.args.planes.now in
    marked_stable c.mark_all.new.self p (c.mark_all.ensures.all (p.stride * p.rows) c.requires.room)
