use Rattle.lemmas.proofs.Common.{arith, common_steps}
use Rattle.bbm_rule.proofs.Imports.{to_z-of_z}
use Rattle.bbm_rule.proofs.RingTests.{ring_read}
use Rattle.bbm_rule.proofs.block.Box2.in_ring.Goals as goal

pub returns : goal.returns
returns c = grind (arith, common_steps, ring_read, to_z-of_z)
