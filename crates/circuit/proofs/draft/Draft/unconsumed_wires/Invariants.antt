use Rattle.circuit.proofs.Imports.{consume_fault, consumed, defined, drop, map, number, take, ◌++◌, ◌≡◌}
use Rattle.circuit.proofs.draft.Draft.unconsumed_wires.Given as goal

abbrev pub invariant-loop-place : goal.invariant-loop-place
invariant-loop-place l = record {
  so_far : consume_fault (defined l.fn.self.lines) (consumed l.fn.self.lines ++ take l.place l.names)
      (drop l.place l.names)
      ≡ consume_fault (defined l.fn.self.lines) (consumed l.fn.self.lines) l.names;
  wires : take l.place l.ins ≡ map (number (defined l.fn.self.lines)) (take l.place l.names);
}
