use Rattle.local_run.proofs.Imports.{arith, bit-zero, common_steps}
use Rattle.local_run.proofs.values.Values.source.Goals as goal

pub returns-in-Zero-clause-values : goal.returns-in-Zero-clause-values
returns-in-Zero-clause-values c = grind (arith, common_steps, bit-zero)
