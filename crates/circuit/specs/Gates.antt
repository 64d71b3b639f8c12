-- The gates of conservative logic (Fredkin and Toffoli 1982), and the inverses of two of them.
use Rattle.std.specs.Prelude.{ℕ, ◌&&◌, ◌||◌, Bool, true, false, not, if◌then◌else◌, List, [], ◌∷◌, Option, Some, None}
use Rattle.circuit.specs.declared.circuit_line.GateKind.{GateKind}
use Rattle.circuit.specs.declared.circuit_line.GateKind.TheVariants.{Source, Fredkin, Cswap, Interact, Switch, Delay}
use Rattle.circuit.specs.declared.circuit_line.GateKind.TheVariants.{Unswitch, Uninteract}

-- the outputs of a gate at its inputs. `None`: the gate has no row there
unfoldable pub row : GateKind → List Bool → Option (List Bool)
row (Source b) [] = Some (b ∷ [])
row Fredkin (c ∷ x ∷ y ∷ []) = Some (c ∷ (if c then x else y) ∷ (if c then y else x) ∷ [])
row Cswap (c ∷ x ∷ y ∷ []) = Some (c ∷ (if c then y else x) ∷ (if c then x else y) ∷ [])
row Interact (p ∷ q ∷ []) = Some ((p && q) ∷ (not p && q) ∷ (p && not q) ∷ (p && q) ∷ [])
row Switch (c ∷ x ∷ []) = Some (c ∷ (c && x) ∷ (not c && x) ∷ [])
row (Delay n) (a ∷ []) = Some (a ∷ [])
row Unswitch (c ∷ y ∷ z ∷ []) = if (c && not z) || (not c && not y) then Some (c ∷ (y || z) ∷ []) else None
row Uninteract (false ∷ false ∷ false ∷ false ∷ []) = Some (false ∷ false ∷ [])
row Uninteract (false ∷ true ∷ false ∷ false ∷ []) = Some (false ∷ true ∷ [])
row Uninteract (false ∷ false ∷ true ∷ false ∷ []) = Some (true ∷ false ∷ [])
row Uninteract (true ∷ false ∷ false ∷ true ∷ []) = Some (true ∷ true ∷ [])
row _ _ = None

-- how many wires a gate uses
abbrev pub uses : GateKind → ℕ
uses (Source b) = 0
uses Fredkin = 3
uses Cswap = 3
uses Interact = 2
uses Switch = 2
uses (Delay n) = 1
uses Unswitch = 3
uses Uninteract = 4

-- how many wires a gate defines
abbrev pub defines : GateKind → ℕ
defines (Source b) = 1
defines Fredkin = 3
defines Cswap = 3
defines Interact = 4
defines Switch = 3
defines (Delay n) = 1
defines Unswitch = 2
defines Uninteract = 2

-- an inverse gate has no row at some inputs
abbrev pub is_inverse : GateKind → Bool
is_inverse Unswitch = true
is_inverse Uninteract = true
is_inverse _ = false
