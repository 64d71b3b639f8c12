use Rattle.circuit.proofs.Imports.{take, value_lines, ◌++◌, ◌≡◌}
use Rattle.circuit.proofs.printing.print_value_lines.Given as goal

abbrev pub invariant-loop-i : goal.invariant-loop-i
invariant-loop-i l = l.out.items ≡ l.fn.out.items ++ value_lines (take l.i l.names) (take l.i l.values)
