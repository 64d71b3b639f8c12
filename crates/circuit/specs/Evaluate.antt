-- The values of wires, gate after gate
use Rattle.std.specs.Prelude.{◌≡◌, ℕ, ◌+◌, Bool, List, [], ◌∷◌, ◌++◌, map, take, Option, Some, None, option_and_then}
use Rattle.std.specs.Prelude.{option_map, slice_get}
use Rattle.circuit.specs.declared.netlist.ValuesFault.{ValuesFault}
use Rattle.circuit.specs.declared.netlist.ValuesFault.TheVariants.{OutOfDomain, Memory}
use Rattle.circuit.specs.Gates.{row}
use Rattle.circuit.specs.Meaning.{Gate}
use Rattle.circuit.specs.Bridge.{as_values}

-- the values of all wires after these gates, or none if a gate has no row
unfoldable pub evaluate : List Bool → List Gate → Option (List Bool)
evaluate vs [] = Some vs
evaluate vs (g ∷ gs) = option_and_then (λ r. evaluate (vs ++ r) gs) (row g.kind (map (as_values vs) g.ins))

-- the number of a gate, if this one has these outputs or no row
abbrev pub this_or_later_undefined : (List Bool → Option ℕ) → Option (List Bool) → Option ℕ
this_or_later_undefined later None = Some 0
this_or_later_undefined later (Some r) = option_map (λ k. k + 1) (later r)

-- the first gate that has no row
unfoldable pub first_undefined_gate : List Bool → List Gate → Option ℕ
first_undefined_gate vs [] = None
first_undefined_gate vs (g ∷ gs) =
    this_or_later_undefined (λ r. first_undefined_gate (vs ++ r) gs) (row g.kind (map (as_values vs) g.ins))

-- gate k has no row, and vs are the values after the gates before it
pub record EvaluatesUpTo (given : List Bool) (gs : List Gate) (k : ℕ) (vs : List Bool) : Type 0 where
  pub gate : Gate
  pub numbered : slice_get gs k ≡ Some gate
  pub before : evaluate given (take k gs) ≡ Some vs
  pub none : row gate.kind (map (as_values vs) gate.ins) ≡ None

-- the reason why gates have no values: the first gate without a row, or out of memory
abbrev pub IsGateEvaluationError : List Bool → List Gate → ValuesFault → Type 0
IsGateEvaluationError given gs (OutOfDomain k vs) = EvaluatesUpTo given gs k vs.items
IsGateEvaluationError given gs Memory = Unit {0}
