-- Two balls that meet in a block.
use Rattle.lemmas.proofs.Common.{arith, common_steps}
use Rattle.bbm_rule.proofs.Imports.{step, turned}
use Rattle.bbm_rule.specs.Laws.{TwoBallsLeaveAtRightAngles}
use Rattle.bbm_rule.proofs.PlaneLemmas.{partner_twice}

pub two_turn : TwoBallsLeaveAtRightAngles
unfolding step turned
two_turn t s x y meets = grind (arith, common_steps, partner_twice)
