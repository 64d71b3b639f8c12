use Rattle.certificate.proofs.Imports.{arith, common_steps}
use Rattle.certificate.proofs.printing.print_borders.Goals as goal

pub loop-border-preserved : goal.loop-border-preserved
loop-border-preserved c = grind (arith, common_steps)
