use Rattle.certificate.proofs.Imports.{arith, common_steps}
use Rattle.certificate.proofs.times.last_times.Goals as goal

pub loop-wire-preserved : goal.loop-wire-preserved
loop-wire-preserved c = grind (arith, common_steps)
