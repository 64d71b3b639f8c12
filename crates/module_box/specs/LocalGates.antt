-- A gate over the wires of a module, as it is kept
use Rattle.std.specs.Prelude.{take}
use Rattle.std.specs.List.{range_with_len}
use Rattle.circuit.specs.Gates.{uses, defines}
use Rattle.circuit.specs.Meaning.{Gate}
use Rattle.module_box.specs.declared.locals.LocalGate.{LocalGate}

-- the gate that is kept
abbrev pub gate_of_local_gate : LocalGate → Gate
gate_of_local_gate g = record {
  kind = g.kind;
  ins = take (uses g.kind) g.ins;
  outs = range_with_len g.first (defines g.kind);
}
