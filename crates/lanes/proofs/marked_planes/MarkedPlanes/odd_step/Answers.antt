use Rattle.lanes.proofs.SettledLemmas.{same_after_turn}
use Rattle.lanes.proofs.marked_planes.MarkedPlanes.odd_step.Goals as goal

pub returns-then-self-gt0-clause-settled_are_same : goal.returns-then-self-gt0-clause-settled_are_same
returns-then-self-gt0-clause-settled_are_same c = λ u within is.
    let m = c.turn_all_unfrozen.new.self in
    let e = c.turn_all_unfrozen.ensures in
    same_after_turn m.block_marks c.args.self.now.planes m.planes u e.size e.turned m.calm within is.1

pub returns-clause-settled_are_same : goal.returns-clause-settled_are_same
returns-clause-settled_are_same c = λ u within is.
    let m = c.plan_next_steps.new.self in
    let e = c.step_by_marks-changed.ensures in
    let same = c.plan_next_steps.ensures.planes in
    same_after_turn m.block_marks c.args.self.now.planes m.planes u (rw same e.size) (rw same e.turned) m.calm within
    is.1
