use Rattle.certificate_lines.proofs.Imports.{arith, common_steps}
use Rattle.certificate_lines.proofs.OddBlocks.{lacked_constant}
use Rattle.certificate_lines.proofs.builder.Builder.does_neighbour_lack_wire.Goals as goal

pub returns-in-None : goal.returns-in-None
returns-in-None c = grind (arith, common_steps, lacked_constant)
