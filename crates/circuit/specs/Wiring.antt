-- The gates and the marks of wires as the code keeps them.
use Rattle.std.specs.Prelude.{ℕ, Bool, true, List, [], ◌∷◌, take, slice_set}
use Rattle.std.specs.List.{range_with_len}
use Rattle.circuit.specs.declared.circuit_line.CircuitLineKind.{CircuitLineKind}
use Rattle.circuit.specs.declared.circuit_line.CircuitLineKind.TheVariants.{Gate as GateLine, Input, Output, Spill}
use Rattle.circuit.specs.declared.wiring.GateWires.{GateWires}
use Rattle.circuit.specs.Gates.{uses, defines}
use Rattle.circuit.specs.Meaning.{Gate}

-- the gate that is kept
abbrev pub gate_of : GateWires → Gate
gate_of g =
    record {
      kind = g.kind;
      ins = take (uses g.kind) g.ins;
      outs = take (defines g.kind) g.outs;
    }

-- the gate of a line of this kind, if it is a gate's line
abbrev pub gate_with_outs_from : CircuitLineKind → List ℕ → ℕ → List Gate
gate_with_outs_from Input ins first = []
gate_with_outs_from (GateLine k) ins first =
    record { kind = k; ins = take (uses k) ins; outs = range_with_len first (defines k) }
    ∷ []
gate_with_outs_from Output ins first = []
gate_with_outs_from Spill ins first = []

-- the marks after those of some wires are set
abbrev pub with_marks_set : List ℕ → List Bool → List Bool
with_marks_set [] marks = marks
with_marks_set (w ∷ ws) marks = with_marks_set ws (slice_set marks w true)
