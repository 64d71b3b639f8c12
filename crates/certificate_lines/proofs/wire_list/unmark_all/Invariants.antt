-- The marks of the wires so far are off.
use Rattle.certificate_lines.proofs.Imports.{length, ◌≡◌}
use Rattle.certificate_lines.proofs.WireListLemmas.{AreUnmarked}
use Rattle.certificate_lines.proofs.wire_list.unmark_all.Given as goal

abbrev pub invariant-loop-wire : goal.invariant-loop-wire
invariant-loop-wire l = record {
  off : AreUnmarked l.marks l.wires l.wire-index;
  same_length : length l.marks ≡ length l.fn.marks;
}
