use Rattle.module_box.proofs.Imports.{arith, common_steps}
use Rattle.module_box.proofs.LocalRows.{column_at}
use Rattle.module_box.proofs.wiring.Wiring.words_of_chunk.Goals as goal

pub returns-clause-values : goal.returns-clause-values
returns-clause-values c = grind (arith, common_steps, column_at)
