-- Circuits of conservative logic (Fredkin and Toffoli 1982) by the numbers of their wires, and their meaning.
use Rattle.std.specs.Prelude.{◌≡◌, ℕ, ◌+◌, ◌<◌, Bool, false, if◌then◌else◌, List, [], ◌∷◌, map, take, length, Option}
use Rattle.std.specs.Prelude.{Some, None, ⊤, slice_get}
use Rattle.std.specs.List.{All, range_with_len}
use Rattle.std.specs.Option.{option_map_or}
use Rattle.std.specs.Str.{bytes_eq}
use Rattle.section_text.specs.Words.{has}
use Rattle.circuit.specs.declared.circuit_line.GateKind.{GateKind}
use Rattle.circuit.specs.Gates.{row, uses, defines, is_inverse}

-- a gate, by the numbers of its wires
pub record Gate : Type 0 where
  pub kind : GateKind
  pub ins : List ℕ
  pub outs : List ℕ

-- Gates over some given wires: the inputs of a circuit, or the cuts of a module. The given wires are numbered first
pub record Netlist : Type 0 where
  pub given : ℕ
  pub gates : List Gate

-- A circuit: its netlist, whose given wires are the inputs, and the name of each wire
pub record Circuit : Type 0 where
  pub netlist : Netlist
  pub names : List (List ℕ)

-- how many names are before a name
unfoldable pub number : List (List ℕ) → List ℕ → ℕ
number [] n = 0
number (m ∷ ms) n = if bytes_eq n m then 0 else (number ms n + 1)

-- how many names are before a name, if the name is one of them
unfoldable pub place_of : List ℕ → List (List ℕ) → Option ℕ
place_of n names = if has names n then Some (number names n) else None

-- the wire of a name
abbrev pub wire_of : Circuit → List ℕ → Option ℕ
wire_of c n = place_of n c.names

-- a truth value for each wire
abbrev pub Valuation : Type 0
Valuation = ℕ → Bool

-- the gate has a row at the values of its inputs, and its outputs have the values of that row
abbrev pub FollowsRow : Valuation → Gate → Type 0
FollowsRow v g = row g.kind (map v g.ins) ≡ Some (map v g.outs)

-- the first n gates have their rows
abbrev pub FirstGatesFollowRows : ℕ → List Gate → Valuation → Type 0
FirstGatesFollowRows n gates v = (k : ℕ) (g : Gate) → k < n → slice_get gates k ≡ Some g → FollowsRow v g

-- v satisfies the gates if the given wires have the values a
pub record Satisfies (n : Netlist) (a v : Valuation) : Type 0 where
  pub given : (i : ℕ) → i < n.given → v i ≡ a i
  pub rows : All (FollowsRow v) n.gates

-- the values of wires by their names, and a name without a wire is false
abbrev pub values_by_name : Circuit → Valuation → List ℕ → Bool
values_by_name c v n = option_map_or v (place_of n c.names) false

-- n wires are defined so far. Each gate uses wires that are defined before it, and defines the next ones
unfoldable pub AreGatesOrdered : ℕ → List Gate → Type 0
AreGatesOrdered n [] = ⊤
AreGatesOrdered n (g ∷ gs) =
    All (λ w. w < n) g.ins × (length g.ins ≡ uses g.kind) × (g.outs ≡ range_with_len n (defines g.kind))
    × AreGatesOrdered (n + defines g.kind) gs

-- none of the gates is an inverse gate
abbrev pub AreNonInverse : List Gate → Type 0
AreNonInverse gates = All (λ g. is_inverse g.kind ≡ false) gates

-- Gate k has no row if the given wires have the values a, and it is the first: the gates before it have theirs under
-- some values of the wires, and it has none there.
pub record IsFirstGateWithoutRow (n : Netlist) (a : Valuation) (k : ℕ) : Type 0 where
  pub gate : Gate
  pub numbered : slice_get n.gates k ≡ Some gate
  pub values : Valuation
  pub given : (i : ℕ) → i < n.given → values i ≡ a i
  pub before : FirstGatesFollowRows k n.gates values
  pub none : row gate.kind (map values gate.ins) ≡ None

-- the first k gates alone
abbrev pub first_gates : ℕ → Netlist → Netlist
first_gates k n = record n { gates = take k n.gates }

-- how many wires there are after the gates
unfoldable pub wires_after : ℕ → List Gate → ℕ
wires_after n [] = n
wires_after n (g ∷ gs) = wires_after (n + defines g.kind) gs

-- how many wires there are
abbrev pub wires : Netlist → ℕ
wires n = wires_after n.given n.gates
