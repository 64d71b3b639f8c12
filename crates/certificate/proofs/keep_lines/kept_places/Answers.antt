use Rattle.certificate.proofs.Imports.{arith, common_steps}
use Rattle.certificate.proofs.keep_lines.kept_places.Goals as goal

pub loop-keep-preserved : goal.loop-keep-preserved
loop-keep-preserved c =
    record { gates = grind (arith, common_steps); within = grind (arith, common_steps) }
