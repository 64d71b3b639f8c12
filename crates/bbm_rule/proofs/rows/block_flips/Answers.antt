use Rattle.bbm_rule.proofs.Imports.{arith, common_steps}
use Rattle.bbm_rule.proofs.Turning.{flips_found, no_flips}
use Rattle.bbm_rule.proofs.rows.block_flips.Goals as goal

pub returns-clause-flips : goal.returns-clause-flips
returns-clause-flips c = grind (arith, common_steps, flips_found)

pub returns-clause-no_flips_if_zero : goal.returns-clause-no_flips_if_zero
returns-clause-no_flips_if_zero c = no_flips _ _ _
