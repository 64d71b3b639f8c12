use Rattle.circuit.proofs.Imports.{input_names, take, ◌++◌, ◌≡◌}
use Rattle.circuit.specs.Bridge.{output_names}
use Rattle.circuit.proofs.ports.push_port_names_of_lines.Given as goal

abbrev pub invariant-loop-entry : goal.invariant-loop-entry
invariant-loop-entry l = record {
  ins : l.ins.items ≡ l.fn.ins.items ++ input_names (take l.entry-index l.entries);
  outs : l.outs.items ≡ l.fn.outs.items ++ output_names (take l.entry-index l.entries);
}
