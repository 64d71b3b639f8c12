use Rattle.certificate.proofs.Imports.{arith, common_steps}
use Rattle.certificate.proofs.layout_tables.fill_mirrors.Goals as goal

pub loop-mirror-preserved : goal.loop-mirror-preserved
loop-mirror-preserved c = (grind (arith, common_steps), grind (arith, common_steps))
