-- There are as many names of inputs as inputs.
use Rattle.circuit.proofs.Imports.{AreGoodAfter, AreGoodCircuitLines, CircuitLine, List, [], arith, common_steps}
use Rattle.circuit.proofs.Imports.{input_count, input_names, length, refl, ◌++◌, ◌∷◌, ◌≡◌}
use Rattle.circuit.proofs.Bridging.{input_cons}

counted : (before rest : List CircuitLine) → AreGoodAfter before rest → length (input_names rest) ≡ input_count rest
unfolding AreGoodAfter
counted before [] good = refl
counted before (r ∷ rest) good =
    grind (arith, common_steps, counted (before ++ r ∷ []) rest good.1, input_cons)

pub inputs_counted : (entries : List CircuitLine) → AreGoodCircuitLines entries →
    length (input_names entries) ≡ input_count entries
inputs_counted entries good = counted [] entries good
