-- The wires that a module knows, and the gates that it uses
use Rattle.std.specs.Prelude.{◌≡◌, ℕ, ◌<◌, ◌≤◌, ◌==◌, Bool, List, [], ◌++◌, map, take, length, Some, slice_get}
use Rattle.std.specs.Prelude.{slice_index, IsTrue}
use Rattle.std.specs.List.{All, flat_map, list_any}
use Rattle.std.specs.Option.{option_map_or}
use Rattle.circuit.specs.Meaning.{Gate, Netlist, AreGatesOrdered, wires}

-- ---- what the lines of a module say: the wires of the circuit that it cuts, and the gates of the circuit that it uses

-- the wires that gate k of the circuit defines
abbrev pub outs_of : Netlist → ℕ → List ℕ
outs_of n k = option_map_or (λ g. g.outs) (slice_get n.gates k) []

-- the wires that the module knows, by their numbers in the circuit: its cuts, then what each of its gates defines
abbrev pub local_wires : Netlist → List ℕ → List ℕ → List ℕ
local_wires n cuts gates = cuts ++ flat_map (outs_of n) gates

-- whether the wire is one of these
abbrev pub is_among : List ℕ → ℕ → Bool
is_among ws w = list_any (λ v. v == w) ws

-- no wire is in the list twice
abbrev pub AreDistinct : List ℕ → Type 0
AreDistinct ws = (i j w : ℕ) → slice_get ws i ≡ Some w → slice_get ws j ≡ Some w → i ≡ j

-- the gate of this number is one of the circuit, and all wires that it uses are among these
pub record UsesOnlyKnownWires (n : Netlist) (known : List ℕ) (k : ℕ) : Type 0 where
  pub gate : Gate
  pub numbered : slice_get n.gates k ≡ Some gate
  pub ins : All (λ w. IsTrue (is_among known w)) gate.ins

-- the most cuts of a module, and the most gates that it uses
abbrev pub cut_limit : ℕ
cut_limit = 12

-- the most gates that a module may use
abbrev pub use_limit : ℕ
use_limit = 64

-- The gates are gates of the circuit in their order, and what one uses is cut or defined by one before it. No wire is
-- cut twice, or cut and defined.
pub record AreLocalLines (n : Netlist) (cuts gates : List ℕ) : Type 0 where
  pub few_cuts : length cuts ≤ cut_limit
  pub few_gates : length gates ≤ use_limit
  pub rising : (i j k m : ℕ) → i < j → slice_get gates i ≡ Some k → slice_get gates j ≡ Some m → k < m
  pub known : (i k : ℕ) → slice_get gates i ≡ Some k → UsesOnlyKnownWires n (local_wires n cuts (take i gates)) k
  pub different : AreDistinct (local_wires n cuts gates)

-- ---- the same numbered anew

-- The wires of a module and its gates over them, numbered from 0. `circuit_wires` and `circuit_gates` have the number
-- of each wire and of each gate in the circuit.
pub record LocalNet : Type 0 where
  pub netlist : Netlist
  pub circuit_wires : List ℕ
  pub circuit_gates : List ℕ

-- the wire of the circuit that has number i in the module
abbrev pub circuit_wire : LocalNet → ℕ → ℕ
circuit_wire l i = slice_index l.circuit_wires i

-- the gate of the circuit that has place k among the used ones
abbrev pub circuit_gate : LocalNet → ℕ → ℕ
circuit_gate l k = slice_index l.circuit_gates k

-- a gate over other numbers of its wires
abbrev pub renumber_gate : (ℕ → ℕ) → Gate → Gate
renumber_gate f g = record g { ins = map f g.ins; outs = map f g.outs }

-- the gates of the module are gates of the circuit, in their order, and each uses wires that are numbered before those
-- that it defines
pub record AreLocalsOf (n : Netlist) (l : LocalNet) : Type 0 where
  pub used : (k : ℕ) (g : Gate) → slice_get l.netlist.gates k ≡ Some g →
      slice_get n.gates (circuit_gate l k) ≡ Some (renumber_gate (circuit_wire l) g)
  pub rising : (k m : ℕ) → k < m → m < length l.netlist.gates → circuit_gate l k < circuit_gate l m
  pub ordered : AreGatesOrdered l.netlist.given l.netlist.gates
  pub sized : length l.circuit_wires ≡ wires l.netlist
