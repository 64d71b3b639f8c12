-- The wires that a gate defines are wires of the netlist
use Rattle.certificate_lines.proofs.Imports.{All, Gate, List, Some, [], arith, common_steps, slice_get, suc, zero, ℕ}
use Rattle.certificate_lines.proofs.Imports.{◌+◌, ◌<◌, ◌∷◌, ◌≡◌}
use Rattle.lemmas.proofs.Common.{same_Some}
use Rattle.circuit.specs.Gates.{defines}
use Rattle.circuit.specs.Meaning.{AreGatesOrdered, wires_after}
use Rattle.module_box.proofs.LocalRows.{range_below}
use Rattle.circuit.proofs.Undefined.{wires_grow}

pub defined_below : (n : ℕ) (gs : List Gate) (k : ℕ) (g : Gate) → AreGatesOrdered n gs → slice_get gs k ≡ Some g →
    All (λ w. w < wires_after n gs) g.outs
unfolding AreGatesOrdered wires_after
defined_below n [] k g ordered at = absurd cc
defined_below n (h ∷ gs) zero g ordered at = grind (arith, common_steps, same_Some, range_below, wires_grow)
defined_below n (h ∷ gs) (suc k) g ordered at = defined_below (n + defines h.kind) gs k g ordered.3 at
