-- The wires so far are local.
use Rattle.certificate_lines.proofs.Imports.{length, take, ◌++◌, ◌+◌, ◌≡◌, ◌≤◌}
use Rattle.certificate_lines.proofs.local_wires.push_wires.Given as goal

abbrev pub invariant-loop-wire : goal.invariant-loop-wire
invariant-loop-wire l = record {
  wires : l.known.wires ≡ l.fn.known.wires ++ take l.wire-index l.wires;
  room : length l.wires ≤ l.known.spare + l.wire-index;
  limit : l.known.limit ≡ l.fn.known.limit;
}
