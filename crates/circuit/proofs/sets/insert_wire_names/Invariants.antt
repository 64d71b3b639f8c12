use Rattle.circuit.proofs.Imports.{define_fault, drop, take, ◌++◌, ◌≡◌}
use Rattle.circuit.proofs.sets.insert_wire_names.Given as goal

abbrev pub invariant-loop-name : goal.invariant-loop-name
invariant-loop-name l = record {
  keys : l.wires.keys ≡ l.fn.wires.keys ++ take l.name-index l.names;
  so_far : define_fault l.wires.keys (drop l.name-index l.names) ≡ define_fault l.fn.wires.keys l.names;
}
