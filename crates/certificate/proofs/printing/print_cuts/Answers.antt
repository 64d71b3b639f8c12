use Rattle.certificate.proofs.Imports.{arith, common_steps}
use Rattle.certificate.proofs.printing.print_cuts.Goals as goal

pub loop-wire-preserved : goal.loop-wire-preserved
loop-wire-preserved c = grind (arith, common_steps)
