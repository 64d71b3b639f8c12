use Rattle.module_box.proofs.Imports.{range_with_len, ◌++◌, ◌≡◌}
use Rattle.module_box.proofs.numbers.push_wires_from.Given as goal

abbrev pub invariant-loop-place : goal.invariant-loop-place
invariant-loop-place l = l.numbers.items ≡ l.initial.numbers.items ++ range_with_len l.first l.place
