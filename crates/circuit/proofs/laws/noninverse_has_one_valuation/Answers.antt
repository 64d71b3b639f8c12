use Rattle.circuit.proofs.Values.{has_one_valuation}
use Rattle.circuit.proofs.laws.noninverse_has_one_valuation.Goals as goal

pub returns : goal.returns
returns c = has_one_valuation
