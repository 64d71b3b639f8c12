use Rattle.certificate.proofs.Imports.{arith, common_steps}
use Rattle.certificate.proofs.layout_tables.push_port_cells.Goals as goal

pub loop-port-preserved : goal.loop-port-preserved
loop-port-preserved c = grind (arith, common_steps)
