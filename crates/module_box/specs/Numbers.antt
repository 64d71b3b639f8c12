-- Numbers that differ for different gates over wires
use Rattle.std.specs.Prelude.{◌≡◌, ℕ, List, ◌∷◌, ◌++◌, length}
use Rattle.std.specs.List.{flat_map}
use Rattle.bbm_rule.specs.Plane.{one_if}
use Rattle.circuit.specs.declared.circuit_line.GateKind.{GateKind}
use Rattle.circuit.specs.declared.circuit_line.GateKind.TheVariants.{Source, Delay}
use Rattle.circuit.specs.Meaning.{Gate, Netlist}
use Rattle.module_box.specs.Equality.{gate_kind_number}

-- how many there are, then the numbers of each
abbrev pub length_prefixed : {A : Type 0} → (A → List ℕ) → List A → List ℕ
length_prefixed numbers xs = length xs ∷ flat_map numbers xs

-- different things have different numbers, whatever follows these
abbrev pub IsPrefixFree : {A : Type 0} → (A → List ℕ) → Type 0
IsPrefixFree {A} numbers = (a b : A) (r s : List ℕ) → numbers a ++ r ≡ numbers b ++ s → (a ≡ b) × (r ≡ s)

-- the bit of a source, the number of a delay
abbrev pub gate_kind_parameter : GateKind → ℕ
gate_kind_parameter (Source b) = one_if b
gate_kind_parameter (Delay n) = n
gate_kind_parameter _ = 0

-- what the gate does, the wires that it uses, and those that it defines
abbrev pub gate_code_numbers : Gate → List ℕ
gate_code_numbers g = gate_kind_number g.kind ∷ gate_kind_parameter g.kind ∷ (length g.ins ∷ g.ins)
    ++ (length g.outs ∷ g.outs)

-- the numbers of a netlist: how many wires are given, and then its gates
unfoldable pub netlist_numbers : Netlist → List ℕ
netlist_numbers n = n.given ∷ length_prefixed gate_code_numbers n.gates

-- ---- law
-- Two netlists with the same numbers are the same, also if more numbers follow.
abbrev pub NumbersDetermineNetlists : Type 0
NumbersDetermineNetlists = IsPrefixFree netlist_numbers
