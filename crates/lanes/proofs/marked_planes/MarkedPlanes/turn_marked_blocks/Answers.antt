use Rattle.lanes.proofs.Imports.{IsNotRowEndBlock, IsPassedBlock, arith, ◌+◌, ◌<◌, ◌∙◌, ◌≤◌}
use Rattle.lanes.proofs.FieldLemmas.{one_more, one_past, past_all, past_before, renamed}
use Rattle.lanes.proofs.SettledLemmas.{settled_twice}
use Rattle.lanes.proofs.marked_planes.MarkedPlanes.turn_marked_blocks.Goals as goal

pub returns-then-u-end-clause-turned : goal.returns-then-u-end-clause-turned
returns-then-u-end-clause-turned c =
    let a = c.args in
    let p = a.self.now.planes in
    renamed p.words p.stride a.partition (IsPassedBlock a.partition p.stride a.first a.end c.loop-rest.rest)
    (λ n. (a.first ≤ n) × (n < a.end) × IsNotRowEndBlock a.partition p.stride n) p c.loop-rest.self.planes
    (λ n l. (
      past_before a.first a.end c.loop-rest.rest c.take_first_mark-place.result.0 n (omega arith) (omega arith)
          (omega arith) c.take_first_mark-place.ensures.first.2 l.0 l.1,
      l.2,
    ))
    (λ n is. (is.0.0, is.0.1, is.1)) c.loop-rest.invariant.turned

pub returns-clause-turned : goal.returns-clause-turned
returns-clause-turned c =
    let a = c.args in
    let p = a.self.now.planes in
    renamed p.words p.stride a.partition (IsPassedBlock a.partition p.stride a.first a.end c.loop-rest.rest)
    (λ n. (a.first ≤ n) × (n < a.end) × IsNotRowEndBlock a.partition p.stride n) p c.loop-rest.self.planes
    (λ n l. (past_all a.first a.end c.loop-rest.rest n (omega arith) l.0 l.1, l.2))
    (λ n is. (is.0.0, is.0.1, is.1)) c.loop-rest.invariant.turned

pub loop-rest-preserved-then-turn_block : goal.loop-rest-preserved-then-turn_block
loop-rest-preserved-then-turn_block c =
    let a = c.args in
    let m = c.loop-rest.invariant in
    let t = c.turn_block.ensures in
    let taken = c.take_first_mark-place.ensures in
    let one = one_past a.first a.end c.loop-rest.rest c.take_first_mark-place.result.1 c.take_first_mark-place.result.0
    (omega arith) (omega arith) taken.first.0 (omega arith) taken.first.1 taken.rest.0 taken.rest.1 in
    record {
      size = (t.size.0 ∙ m.size.0, t.size.1 ∙ m.size.1, t.size.2 ∙ m.size.2);
      stays = λ e. absurd (omega (arith, e));
      settled = λ e. settled_twice a.self.now c.loop-rest.self c.turn_block.new.self (m.settled e)
          (t.settled_if_even e);
      count = (omega arith, omega arith);
      turned = one_more a.partition a.self.now.planes c.loop-rest.self.planes c.turn_block.new.self.planes
          (a.first + c.take_first_mark-place.result.0) a.first a.end c.loop-rest.rest c.take_first_mark-place.result.1
          one m.size
          m.turned t.turned t.row_end_unchanged;
    }

pub loop-rest-preserved : goal.loop-rest-preserved
loop-rest-preserved c =
    let a = c.args in
    let m = c.loop-rest.invariant in
    let t = c.turn_block.ensures in
    let taken = c.take_first_mark-place.ensures in
    let one = one_past a.first a.end c.loop-rest.rest c.take_first_mark-place.result.1 c.take_first_mark-place.result.0
    (omega arith) (omega arith) taken.first.0 (omega arith) taken.first.1 taken.rest.0 taken.rest.1 in
    record {
      size = (t.size.0 ∙ m.size.0, t.size.1 ∙ m.size.1, t.size.2 ∙ m.size.2);
      stays = λ e. t.unchanged_if_false c.if-turn_block.false ∙ m.stays e;
      settled = λ e. settled_twice a.self.now c.loop-rest.self c.turn_block.new.self (m.settled e)
          (t.settled_if_even e);
      count = (omega arith, omega arith);
      turned = one_more a.partition a.self.now.planes c.loop-rest.self.planes c.turn_block.new.self.planes
          (a.first + c.take_first_mark-place.result.0) a.first a.end c.loop-rest.rest c.take_first_mark-place.result.1
          one m.size
          m.turned t.turned t.row_end_unchanged;
    }
