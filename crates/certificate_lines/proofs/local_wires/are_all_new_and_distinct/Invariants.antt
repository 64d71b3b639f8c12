-- The wires so far are new.
use Rattle.certificate_lines.proofs.Imports.{are_new_and_distinct, take, true, ◌≡◌}
use Rattle.certificate_lines.proofs.local_wires.are_all_new_and_distinct.Given as goal

abbrev pub invariant-loop-at : goal.invariant-loop-at
invariant-loop-at l = are_new_and_distinct l.fn.known.wires (take l.at l.fn.wires) ≡ true
