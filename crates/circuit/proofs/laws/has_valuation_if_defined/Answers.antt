use Rattle.circuit.proofs.Undefined.{has_valuation, undefined_has_none}
use Rattle.circuit.proofs.laws.has_valuation_if_defined.Goals as goal

pub returns-clause-valuation_found : goal.returns-clause-valuation_found
returns-clause-valuation_found c = has_valuation

pub returns-clause-undefined_has_none : goal.returns-clause-undefined_has_none
returns-clause-undefined_has_none c = undefined_has_none
