use Rattle.lanes.proofs.Imports.{arith}
use Rattle.lanes.proofs.LiveLemmas.{swaps_more}
use Rattle.lanes.proofs.words.swap_part.Goals as goal

pub loop-k-preserved : goal.loop-k-preserved
loop-k-preserved c =
    let m = c.loop-k.invariant in
    record {
      within = omega (arith, c.loop-k-test.true);
      first_long = omega (arith, m.first_long);
      second_long = omega (arith, m.second_long);
      swap = swaps_more c.args.a c.args.b c.loop-k.k 4 c.args.first.now c.args.second.now c.loop-k.first c.loop-k.second
          c.swap_four_words.new.first c.swap_four_words.new.second m.swap c.swap_four_words.ensures;
    }
