use Rattle.lanes.proofs.Imports.{not-false, true, ◌≡◌}
use Rattle.lemmas.proofs.Common.{below_more, rules}
use Rattle.lanes.proofs.frozen.FrozenBlocks.are_marked_blocks_held.Goals as goal

pub loop-u-preserved : goal.loop-u-preserved
loop-u-preserved c =
    let h : c.is_mark_correct.result ≡ true = first_of (cc, search (rules, not-false)) in
    record {
      held = below_more _ _ c.loop-u.invariant.held (λ i m. c.is_mark_correct.ensures.marked_block_held h i m);
      last = below_more _ _ c.loop-u.invariant.last (c.is_mark_correct.ensures.row_end_marked h);
    }
