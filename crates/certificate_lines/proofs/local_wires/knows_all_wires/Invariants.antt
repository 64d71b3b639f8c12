-- The wires so far are local.
use Rattle.certificate_lines.proofs.Imports.{is_among, list_all, take, true, ◌≡◌}
use Rattle.certificate_lines.proofs.local_wires.knows_all_wires.Given as goal

abbrev pub invariant-loop-wire : goal.invariant-loop-wire
invariant-loop-wire l = list_all (is_among l.known.wires) (take l.wire-index l.wires) ≡ true
