use Rattle.circuit.proofs.Imports.{drop, length, with_marks_set, ◌≡◌}
use Rattle.circuit.proofs.sets.mark_wires_consumed.Given as goal

abbrev pub invariant-loop-wire : goal.invariant-loop-wire
invariant-loop-wire l = record {
  long : length l.consumed.items ≡ length l.fn.consumed.items;
  rest : with_marks_set (drop l.wire-index l.wires) l.consumed.items ≡ with_marks_set l.wires l.fn.consumed.items;
}
