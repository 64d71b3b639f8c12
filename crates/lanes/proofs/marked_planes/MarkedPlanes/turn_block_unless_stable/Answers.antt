use Rattle.lanes.proofs.Imports.{Odd, sym}
use Rattle.lanes.proofs.CalmLemmas.{block_cells, still_stable, still_stable_unmarked}
use Rattle.lanes.proofs.LiveLemmas.{cells_dead}
use Rattle.lanes.proofs.SettledLemmas.{kept_number, odd_marks_kept, same_number}
use Rattle.lanes.proofs.marked_planes.MarkedPlanes.turn_block_unless_stable.Goals as goal

pub invariant_of-self-clause-calm : goal.invariant_of-self-clause-calm
invariant_of-self-clause-calm c =
    let f = c.args.self.now in
    let main = rw c.block_places-block.ensures.block at (c.block_changes-changes.ensures.main (c.is_none.ensures.main
    c.if-is_none.true)) in
    let anti = rw c.block_places-block.ensures.block at (c.block_changes-changes.ensures.anti (c.is_none.ensures.anti
    c.if-is_none.true)) in
    still_stable_unmarked c.args.partition c.args.u f.block_marks c.unmark.new.self f.planes c.unmark.ensures.unmarked
    (λ inside. (main, anti)) f.calm

pub invariant_of-self-2-clause-calm : goal.invariant_of-self-2-clause-calm
invariant_of-self-2-clause-calm c =
    let f = c.args.self.now in
    let e = c.block_changes-changes.ensures in
    let marks = rw (c.stride-stride.ensures.stride_is_exact, sym c.block_places-block.ensures.block)
    at c.mark_block_and_neighbours.ensures.marked in
    still_stable _ _ c.block_places-block.result f.block_marks c.mark_block_and_neighbours.new.self f.planes
    c.turn_block.new.self
    c.turn_block.ensures.size
    (block_cells _ _ c.block_places-block.result f.planes c.turn_block.new.self e.main e.anti
    c.turn_block.ensures.turned)
    marks f.calm

pub invariant_of-self-2-clause-all_dead : goal.invariant_of-self-2-clause-all_dead
invariant_of-self-2-clause-all_dead c =
    let f = c.args.self.now in
    let e = c.block_changes-changes.ensures in
    cells_dead _ _ c.block_places-block.result f.live_marks c.mark_changed_cells.new.self f.planes c.turn_block.new.self
    c.turn_block.ensures.size
    (block_cells _ _ c.block_places-block.result f.planes c.turn_block.new.self e.main e.anti
    c.turn_block.ensures.turned)
    c.mark_changed_cells.ensures.cells f.all_dead

pub returns-then-is_none-clause-settled_if_even : goal.returns-then-is_none-clause-settled_if_even
returns-then-is_none-clause-settled_if_even c = λ even u is. (
  (
    is.0,
    odd_marks_kept c.args.partition c.args.u c.args.self.now.block_marks c.unmark.new.self even
        c.unmark.ensures.unmarked u is.1,
  ),
  same_number u c.args.self.now.planes,
)

pub returns-clause-settled_if_even : goal.returns-clause-settled_if_even
returns-clause-settled_if_even c = λ even u is.
    let f = c.args.self.now in
    let e = c.block_changes-changes.ensures in
    let marks = rw (c.stride-stride.ensures.stride_is_exact, sym c.block_places-block.ensures.block)
    at c.mark_block_and_neighbours.ensures.marked in
    let free = marks Odd u is.1 in (
      (is.0, free.0),
      kept_number _ _ c.block_places-block.result f.planes c.turn_block.new.self u c.turn_block.ensures.size
          (block_cells _ _ c.block_places-block.result f.planes c.turn_block.new.self e.main e.anti
          c.turn_block.ensures.turned) free.1,
    )
