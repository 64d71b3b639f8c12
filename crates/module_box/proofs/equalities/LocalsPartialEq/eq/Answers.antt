use Rattle.module_box.proofs.Imports.{arith, common_steps}
use Rattle.module_box.proofs.EqualTests.{same_gates}
use Rattle.module_box.proofs.equalities.LocalsPartialEq.eq.Goals as goal

pub returns : goal.returns
returns c = grind (arith, common_steps, same_gates)
