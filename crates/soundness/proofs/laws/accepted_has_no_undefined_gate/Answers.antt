use Rattle.soundness.proofs.KeptGates.{none_is_undefined, accepted_has_valuation}
use Rattle.soundness.proofs.laws.accepted_has_no_undefined_gate.Goals as goal

pub returns-clause-none : goal.returns-clause-none
returns-clause-none c = none_is_undefined

pub returns-clause-valuation : goal.returns-clause-valuation
returns-clause-valuation c = accepted_has_valuation
