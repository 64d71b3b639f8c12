use Rattle.certificate.proofs.Imports.{arith, common_steps}
use Rattle.certificate.proofs.version.Version.is_haloless.Goals as goal

pub returns-in_default : goal.returns-in_default
returns-in_default c = grind (arith, common_steps)

pub returns-in-WithoutHalos : goal.returns-in-WithoutHalos
returns-in-WithoutHalos c = grind (arith, common_steps)
