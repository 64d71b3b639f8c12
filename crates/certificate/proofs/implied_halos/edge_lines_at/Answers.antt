use Rattle.certificate.proofs.Imports.{arith, common_steps}
use Rattle.certificate.proofs.implied_halos.edge_lines_at.Goals as goal

pub loop-place-preserved : goal.loop-place-preserved
loop-place-preserved c = grind (arith, common_steps)
