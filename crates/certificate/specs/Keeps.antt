-- The inverse gates that some module keeps
use Rattle.std.specs.Prelude.{ℕ, ◌+◌, ◌&&◌, Bool, not, if◌then◌else◌, List, [], ◌∷◌, ◌++◌}
use Rattle.std.specs.List.{list_any}
use Rattle.circuit.specs.Gates.{is_inverse}
use Rattle.circuit.specs.Meaning.{Gate}
use Rattle.module_box.specs.Locals.{is_among}
use Rattle.certificate_lines.specs.Entries.{Setting, ModuleLines, keeps}

-- whether some module keeps the gate of this number
abbrev pub is_kept : List ModuleLines → ℕ → Bool
is_kept ms n = list_any (λ m. is_among (keeps m) n) ms

-- the inverse gates that no module keeps, in order, if the first gate has this number
unfoldable pub unkept_gates_from : List ModuleLines → ℕ → List Gate → List ℕ
unkept_gates_from ms n [] = []
unkept_gates_from ms n (g ∷ gs) = (if is_inverse g.kind && not (is_kept ms n) then n ∷ [] else [])
    ++ unkept_gates_from ms (n + 1) gs

-- the numbers of the inverse gates that no module keeps
abbrev pub unkept : Setting → List ModuleLines → List ℕ
unkept g ms = unkept_gates_from ms 0 g.circuit.netlist.gates
