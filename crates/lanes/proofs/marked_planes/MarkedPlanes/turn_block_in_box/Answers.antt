use Rattle.lanes.proofs.SettledLemmas.{settled_twice}
use Rattle.lanes.proofs.marked_planes.MarkedPlanes.turn_block_in_box.Goals as goal

pub returns-clause-settled_if_even : goal.returns-clause-settled_if_even
returns-clause-settled_if_even c = λ even. settled_twice c.args.self.now c.turn_block_unless_stable-is_turned.new.self
    c.unmark_and_count.new.self (c.turn_block_unless_stable-is_turned.ensures.settled_if_even even)
    c.unmark_and_count.ensures.settled
