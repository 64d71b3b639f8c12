use Rattle.certificate.proofs.Imports.{arith, common_steps}
use Rattle.certificate.proofs.printing.print_use_or_keep_lines.Goals as goal

pub loop-gate-preserved : goal.loop-gate-preserved
loop-gate-preserved c = grind (arith, common_steps)
