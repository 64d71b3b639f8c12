use Rattle.lanes.proofs.Imports.{arith, ◌*◌}
use Rattle.lanes.proofs.FrozenLemmas.{dead_found}
use Rattle.lanes.proofs.LiveLemmas.{marked_dead}
use Rattle.lanes.proofs.frozen.FrozenBlocks.mark_live.Goals as goal

pub returns-then-self-clause-unmarked_cells_dead : goal.returns-then-self-clause-unmarked_cells_dead
returns-then-self-clause-unmarked_cells_dead c =
    let b = c.args.self.now in
    let p = c.args.planes.now in
    let but = rw (c.deref.ensures.value, c.deref-then-self.ensures.value) at c.set_marks_to_not_both.ensures.marked in
    dead_found b c.set_marks_to_not_both.new.self p c.prove_planes_are_words.ensures c.requires.frozen_if_found
    c.if-self.true
    (λ room. but (p.stride * p.rows) c.requires.room (omega (arith, room.odd, b.marks.odd.ok.0))
    (omega (arith, room.empty, b.empty.ok.0)))

pub returns-else-self-clause-unmarked_cells_dead : goal.returns-else-self-clause-unmarked_cells_dead
returns-else-self-clause-unmarked_cells_dead c =
    let p = c.args.planes.now in
    marked_dead (p.stride * p.rows) c.mark_all.new.self p (omega arith) (c.mark_all.ensures.all _ c.requires.room)
