use Rattle.module_box.proofs.Imports.{length, take, ◌++◌, ◌+◌, ◌≡◌}
use Rattle.module_box.proofs.locals.add_wires.Given as goal

abbrev pub invariant-loop-wire : goal.invariant-loop-wire
invariant-loop-wire l = record {
  known : l.known ≡ l.fn.known ++ take l.wire-index l.wires;
  count : length l.known ≡ length l.fn.known + l.wire-index;
}
