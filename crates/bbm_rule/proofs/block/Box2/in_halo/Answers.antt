use Rattle.lemmas.proofs.Common.{arith, common_steps}
use Rattle.bbm_rule.proofs.Imports.{to_z-of_z}
use Rattle.bbm_rule.proofs.RingTests.{halo_read}
use Rattle.bbm_rule.proofs.block.Box2.in_halo.Goals as goal

pub returns : goal.returns
returns c = grind (arith, common_steps, halo_read, to_z-of_z)
