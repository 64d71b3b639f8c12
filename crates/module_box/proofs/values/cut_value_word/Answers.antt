use Rattle.module_box.proofs.Imports.{arith, bit, common_steps}
use Rattle.module_box.proofs.CutWords.{low_word, high_ones, high_none, mask_0, mask_1, mask_2, mask_3, mask_4, mask_5}
use Rattle.module_box.proofs.values.cut_value_word.Goals as goal

pub returns-in-0 : goal.returns-in-0
returns-in-0 c = λ b h. low_word 12297829382473034410 0 c.args.cut c.args.chunk b mask_0 (omega arith) (omega arith) h

pub returns-in-1 : goal.returns-in-1
returns-in-1 c = λ b h. low_word 14757395258967641292 1 c.args.cut c.args.chunk b mask_1 (omega arith) (omega arith) h

pub returns-in-2 : goal.returns-in-2
returns-in-2 c = λ b h. low_word 17361641481138401520 2 c.args.cut c.args.chunk b mask_2 (omega arith) (omega arith) h

pub returns-in-3 : goal.returns-in-3
returns-in-3 c = λ b h. low_word 18374966859414961920 3 c.args.cut c.args.chunk b mask_3 (omega arith) (omega arith) h

pub returns-in-4 : goal.returns-in-4
returns-in-4 c = λ b h. low_word 18446462603027742720 4 c.args.cut c.args.chunk b mask_4 (omega arith) (omega arith) h

pub returns-in-5 : goal.returns-in-5
returns-in-5 c = λ b h. low_word 18446744069414584320 5 c.args.cut c.args.chunk b mask_5 (omega arith) (omega arith) h

pub returns-then-chunk-cut-eq1 : goal.returns-then-chunk-cut-eq1
unfolding bit
returns-then-chunk-cut-eq1 c = grind (arith, common_steps, high_ones)

pub returns-else-chunk-cut-eq1 : goal.returns-else-chunk-cut-eq1
unfolding bit
returns-else-chunk-cut-eq1 c = grind (arith, common_steps, high_none)
