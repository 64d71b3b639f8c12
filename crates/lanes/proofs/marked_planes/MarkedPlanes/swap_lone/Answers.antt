use Rattle.lanes.proofs.Imports.{Odd, block_at, is_main_diagonal, not}
use Rattle.lanes.proofs.CalmLemmas.{cells_of, still_stable}
use Rattle.lanes.proofs.LiveLemmas.{lone_turned, swapped_cells, swapped_dead}
use Rattle.lanes.proofs.FrozenLemmas.{one_may_turn, still_frozen}
use Rattle.lanes.proofs.SettledLemmas.{kept_number}
use Rattle.lanes.proofs.marked_planes.MarkedPlanes.swap_lone.Goals as goal

pub invariant_of-self-clause-calm : goal.invariant_of-self-clause-calm
invariant_of-self-clause-calm c =
    let f = c.args.self.now in
    let swap = rw c.block_places-block.ensures.block at c.swap-2.ensures.swapped in
    let marks = rw (c.of.ensures.main, c.of.ensures.anti, c.stride-stride.ensures.stride_is_exact)
    at c.mark_block_and_neighbours.ensures.marked in
    still_stable (is_main_diagonal c.args.diagonal) (not (is_main_diagonal c.args.diagonal))
    (block_at c.args.partition f.planes.stride c.args.u) f.block_marks c.mark_block_and_neighbours.new.self f.planes
    c.swap-2.new.self c.swap-2.ensures.size
    (swapped_cells c.args.diagonal (block_at c.args.partition f.planes.stride c.args.u) f.planes c.swap-2.new.self swap)
    marks f.calm

pub invariant_of-self-clause-all_dead : goal.invariant_of-self-clause-all_dead
invariant_of-self-clause-all_dead c =
    let f = c.args.self.now in
    let swap = rw c.block_places-block.ensures.block at c.swap-2.ensures.swapped in
    let marks = rw c.block_places-block.ensures.block at c.swap.ensures.swapped in
    swapped_dead c.args.diagonal (block_at c.args.partition f.planes.stride c.args.u) f.live_marks c.swap.new.self
    f.planes c.swap-2.new.self c.swap-2.ensures.size
    (cells_of c.args.partition f.planes c.args.u c.requires.block.0) swap marks f.all_dead

pub invariant_of-self-clause-freezes : goal.invariant_of-self-clause-freezes
invariant_of-self-clause-freezes c =
    let f = c.args.self.now in
    let swap = rw c.block_places-block.ensures.block at c.swap-2.ensures.swapped in
    still_frozen c.args.partition f.frozen f.planes c.swap-2.new.self c.swap-2.ensures.size
    (one_may_turn c.args.partition f.planes c.swap-2.new.self c.args.u c.requires.block
    (lone_turned c.args.diagonal (block_at c.args.partition f.planes.stride c.args.u) f.live_marks f.planes
    c.swap-2.new.self (cells_of c.args.partition f.planes c.args.u c.requires.block.0) c.requires.diagonal_lone
    f.all_dead swap))
    f.freezes

pub returns-clause-settled_if_even : goal.returns-clause-settled_if_even
returns-clause-settled_if_even c = λ even u is.
    let f = c.args.self.now in
    let swap = rw c.block_places-block.ensures.block at c.swap-2.ensures.swapped in
    let marks = rw (c.of.ensures.main, c.of.ensures.anti, c.stride-stride.ensures.stride_is_exact)
    at c.mark_block_and_neighbours.ensures.marked in
    let free = marks Odd u is.1 in (
      (is.0, free.0),
      kept_number (is_main_diagonal c.args.diagonal) (not (is_main_diagonal c.args.diagonal))
          (block_at c.args.partition f.planes.stride c.args.u) f.planes c.swap-2.new.self u c.swap-2.ensures.size
          (swapped_cells c.args.diagonal (block_at c.args.partition f.planes.stride c.args.u) f.planes
          c.swap-2.new.self swap) free.1,
    )
