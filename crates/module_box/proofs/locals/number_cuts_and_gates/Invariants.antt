use Rattle.module_box.proofs.Imports.{gate_of_local_gate, map, netlist_of}
use Rattle.module_box.proofs.LocalNets.{IsPart}
use Rattle.module_box.proofs.locals.number_cuts_and_gates.Given as goal

abbrev pub invariant-loop-used : goal.invariant-loop-used
invariant-loop-used l = IsPart (netlist_of l.circuit) l.cuts l.fn.gates l.used-index l.known
    (map gate_of_local_gate l.made.items)
