use Rattle.module_box.proofs.Imports.{arith, common_steps}
use Rattle.module_box.proofs.LocalRows.{put_more}
use Rattle.module_box.proofs.values.put_word_in_each_row.Goals as goal

pub loop-wire-preserved : goal.loop-wire-preserved
loop-wire-preserved c = grind (arith, common_steps, put_more)
