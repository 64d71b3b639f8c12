use Rattle.circuit.proofs.Valuations.{at_most_one}
use Rattle.circuit.proofs.laws.has_at_most_one_valuation.Goals as goal

pub returns : goal.returns
returns c = at_most_one
