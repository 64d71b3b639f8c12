use Rattle.lanes.proofs.Imports.{arith, common_steps}
use Rattle.lanes.proofs.SettledLemmas.{odd_marks_kept, same_number}
use Rattle.lanes.proofs.marked_planes.MarkedPlanes.turn_block.Goals as goal

pub invariant_of-self-clause-block_room : goal.invariant_of-self-clause-block_room
invariant_of-self-clause-block_room c = grind (arith, common_steps)

pub returns-then-is_row_end-clause-settled_if_even : goal.returns-then-is_row_end-clause-settled_if_even
returns-then-is_row_end-clause-settled_if_even c = λ even u is. (
  (
    is.0,
    odd_marks_kept c.args.partition c.args.u c.args.self.now.block_marks c.unmark.new.self even
        c.unmark.ensures.unmarked u is.1,
  ),
  same_number u c.args.self.now.planes,
)
