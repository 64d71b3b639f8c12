-- The lines of a circuit.
use Rattle.std.specs.Prelude.{ℕ, List}
use Rattle.std.specs.List.{flat_map}
use Rattle.circuit.specs.declared.circuit_line.CircuitLineKind.{CircuitLineKind}
use Rattle.circuit.specs.declared.circuit_line.CircuitLineKind.TheVariants.{Input, Gate, Output, Spill}
use Rattle.circuit.specs.declared.circuit_line.CircuitLine.{CircuitLine}

-- the order of the kinds of line
abbrev pub rank_of : CircuitLineKind → ℕ
rank_of Input = 0
rank_of (Gate k) = 1
rank_of Output = 2
rank_of Spill = 3

-- a line of this kind, with the wires that it consumes and those that it defines
abbrev pub entry : CircuitLineKind → List (List ℕ) → List (List ℕ) → CircuitLine
entry kind ins outs = record { kind = kind; ins = ins; outs = outs }

-- the wires that lines define, in order
abbrev pub defined : List CircuitLine → List (List ℕ)
defined entries = flat_map (λ r. r.outs) entries
