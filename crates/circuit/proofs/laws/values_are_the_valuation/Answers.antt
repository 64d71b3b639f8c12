use Rattle.circuit.proofs.Values.{values_are_the_valuation}
use Rattle.circuit.proofs.laws.values_are_the_valuation.Goals as goal

pub returns : goal.returns
returns c = values_are_the_valuation
