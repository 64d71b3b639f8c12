use Rattle.lanes.proofs.Imports.{TurnsNumberedBlocksBetween, arith, block_number_count, by_lt_or_le, inl, inr, ◌*◌, ◌+◌}
use Rattle.lanes.proofs.Imports.{◌∙◌, ◌≡◌}
use Rattle.lanes.proofs.CalmLemmas.{same_count}
use Rattle.lanes.proofs.FieldLemmas.{all_turned, below_all, word_more, word_more_none}
use Rattle.lanes.proofs.SettledLemmas.{settled_twice}
use Rattle.lanes.proofs.marked_planes.MarkedPlanes.step_by_marks.Goals as goal

pub loop-k-preserved : goal.loop-k-preserved
loop-k-preserved c =
    let m = c.loop-k.invariant in
    let t = c.turn_marked_blocks-changed.ensures in
    let none : c.loop-k.changed + c.turn_marked_blocks-changed.result ≡ 0 →
    (c.loop-k.changed ≡ 0) × (c.turn_marked_blocks-changed.result ≡ 0) = λ e. (omega (arith, e), omega (arith, e)) in
    record {
      size = (t.size.0 ∙ m.size.0, t.size.1 ∙ m.size.1, t.size.2 ∙ m.size.2);
      stays = λ e. t.unchanged_if_zero (none e).1 ∙ m.stays (none e).0;
      settled = λ e. settled_twice c.args.self.now c.loop-k.self c.turn_marked_blocks-changed.new.self (m.settled e)
          (t.settled_if_even e);
      count = (omega arith, omega arith);
      turned = word_more c.args.partition c.args.self.now.planes c.loop-k.self.planes
          c.turn_marked_blocks-changed.new.self.planes c.loop-k.k c.min-end.result c.block_number_count-blocks.result
          m.size
          (omega arith) (omega arith) (omega arith)
          (by_lt_or_le (64 * c.loop-k.k + 64) c.block_number_count-blocks.result (λ l. inl (omega arith))
          (λ l. inr (omega arith))) m.turned t.turned;
    }

pub loop-k-preserved-then-word-eq0 : goal.loop-k-preserved-then-word-eq0
loop-k-preserved-then-word-eq0 c =
    let m = c.loop-k.invariant in
    let count = same_count c.args.partition c.args.self.now.planes c.loop-k.self.planes m.size in
    let blocks = c.block_number_count-blocks.ensures.count_is_exact in
    record {
      size = m.size;
      stays = m.stays;
      settled = m.settled;
      count = (omega arith, omega arith);
      turned = word_more_none c.args.partition c.args.self.now.planes c.loop-k.self.planes c.loop-k.k
          c.block_number_count-blocks.result c.blocks_to_turn-word.result m.size (omega arith) c.if-word-eq0.true
          (λ end short within. c.blocks_to_turn-word.ensures.calm end short (omega (arith, within, count, blocks)))
          m.turned;
    }

pub returns-clause-turned : goal.returns-clause-turned
returns-clause-turned c =
    let m = c.loop-k.invariant in
    let p = c.args.self.now.planes in
    let blocks = c.block_number_count-blocks.ensures.count_is_exact in
    let all : TurnsNumberedBlocksBetween c.args.partition 0
    (block_number_count c.args.partition p) p c.loop-k.self.planes =
    rw blocks at (below_all c.args.partition p c.loop-k.self.planes (64 * c.loop-k.k) c.block_number_count-blocks.result
    (omega arith) m.turned) in
    all_turned c.args.partition p c.loop-k.self.planes m.size all
