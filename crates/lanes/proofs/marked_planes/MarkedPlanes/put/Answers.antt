use Rattle.lanes.proofs.CalmLemmas.{still_stable}
use Rattle.lanes.proofs.PutLemmas.{put_dead}
use Rattle.lanes.proofs.SettledLemmas.{kept_number}
use Rattle.lanes.proofs.Imports.{Odd}
use Rattle.lanes.proofs.marked_planes.MarkedPlanes.put.Goals as goal

pub invariant_of-self-clause-calm : goal.invariant_of-self-clause-calm
invariant_of-self-clause-calm c =
    let f = c.args.self.now in
    let e = c.put-is_live.ensures in
    let marks = rw (
      c.of_cell-changes.ensures.main,
      c.of_cell-changes.ensures.anti,
      c.stride-stride.ensures.stride_is_exact,
      c.cell_number-u.ensures.number_is_exact,
    ) at c.mark_block_and_neighbours.ensures.marked in
    still_stable _ _ _ f.block_marks c.mark_block_and_neighbours.new.self f.planes c.put-is_live.new.self
    e.cell_set.size e.cells
    marks
    f.calm

pub invariant_of-self-clause-all_dead : goal.invariant_of-self-clause-all_dead
invariant_of-self-clause-all_dead c =
    let f = c.args.self.now in
    let e = c.put-is_live.ensures in
    let mark = rw c.cell_number-u.ensures.number_is_exact at c.set.ensures.mark_set in
    put_dead c.args.x c.args.y c.args.list.now c.args.source c.put-is_live.result f.live_marks c.set.new.self f.planes
    c.put-is_live.new.self c.requires.place.0 c.prove_planes_are_words.ensures e.cell_set mark e.words_zero f.all_dead

pub returns-clause-settled : goal.returns-clause-settled
returns-clause-settled c = λ u is.
    let f = c.args.self.now in
    let e = c.put-is_live.ensures in
    let marks = rw (
      c.of_cell-changes.ensures.main,
      c.of_cell-changes.ensures.anti,
      c.stride-stride.ensures.stride_is_exact,
      c.cell_number-u.ensures.number_is_exact,
    ) at c.mark_block_and_neighbours.ensures.marked in
    let free = marks Odd u is.1 in
    ((is.0, free.0), kept_number _ _ _ f.planes _ u e.cell_set.size e.cells free.1)
