use Rattle.module_box.proofs.Imports.{flat_map, gate_code_numbers, gate_of_local_gate, map, take, ◌++◌, ◌≡◌}
use Rattle.module_box.proofs.numbers.push_gates_as_numbers.Given as goal

abbrev pub invariant-loop-gate : goal.invariant-loop-gate
invariant-loop-gate l = l.numbers.items
    ≡ l.initial.numbers.items ++ flat_map gate_code_numbers (map gate_of_local_gate (take l.gate-index l.gates))
