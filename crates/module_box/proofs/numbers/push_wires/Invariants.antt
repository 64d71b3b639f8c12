use Rattle.module_box.proofs.Imports.{take, ◌++◌, ◌≡◌}
use Rattle.module_box.proofs.numbers.push_wires.Given as goal

abbrev pub invariant-loop-wire : goal.invariant-loop-wire
invariant-loop-wire l = l.numbers.items ≡ l.initial.numbers.items ++ take l.wire-index l.wires
