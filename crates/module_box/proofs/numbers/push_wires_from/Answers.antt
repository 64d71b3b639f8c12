use Rattle.module_box.proofs.Imports.{arith, common_steps}
use Rattle.module_box.proofs.InjectiveNumbers.{range_more}
use Rattle.module_box.proofs.numbers.push_wires_from.Goals as goal

pub loop-place-preserved : goal.loop-place-preserved
loop-place-preserved c = grind (arith, common_steps, range_more)
