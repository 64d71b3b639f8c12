use Rattle.circuit.proofs.Undefined.{only_inverse, undefined_is_one, stopped}
use Rattle.circuit.proofs.laws.undefined_gate_is_unique.Goals as goal

pub returns-clause-inverse : goal.returns-clause-inverse
returns-clause-inverse c = only_inverse

pub returns-clause-at_most_one : goal.returns-clause-at_most_one
returns-clause-at_most_one c = undefined_is_one

pub returns-clause-stopped : goal.returns-clause-stopped
returns-clause-stopped c = stopped
