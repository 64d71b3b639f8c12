use Rattle.certificate.proofs.Imports.{arith, common_steps}
use Rattle.certificate.proofs.printing.print_stops.Goals as goal

pub loop-stop-preserved : goal.loop-stop-preserved
loop-stop-preserved c = grind (arith, common_steps)
