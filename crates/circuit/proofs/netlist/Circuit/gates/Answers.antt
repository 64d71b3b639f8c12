use Rattle.circuit.proofs.Imports.{arith, common_steps, length-map}
use Rattle.circuit.proofs.Bridging.{gates_are_ordered}
use Rattle.circuit.proofs.Naming.{gates_counted}
use Rattle.circuit.proofs.netlist.Circuit.gates.Goals as goal

pub returns-clause-at_most_max_gates : goal.returns-clause-at_most_max_gates
returns-clause-at_most_max_gates c = grind (arith, common_steps, length-map, gates_counted)

pub returns-clause-gates_ordered : goal.returns-clause-gates_ordered
returns-clause-gates_ordered c = grind (arith, common_steps, gates_are_ordered)
