-- The statements of this crate's laws
use Rattle.std.specs.Prelude.{◌≡◌, ◌≢◌, ℕ, ℤ, ◌<◌, ◌%◌, ◌^◌, List, length, slice_get, Some, IsTrue, IsFalse}
use Rattle.std.specs.Bool.{Decides}
use Rattle.bbm_rule.specs.Plane.{State, step}
use Rattle.bbm_rule.specs.Bits.{bit}
use Rattle.circuit.specs.Meaning.{IsFirstGateWithoutRow, Netlist, Satisfies, Valuation, wires}
use Rattle.bbm_rule.specs.Boxes.{in_box, in_ring, in_halo, IsEvenBox, Tile}
use Rattle.module_box.specs.Tiling.{rectangle_of, MayHaveOwnerTable, IsTileFault}
use Rattle.module_box.specs.Schedules.{Signals}
use Rattle.module_box.specs.Locals.{LocalNet, AreLocalsOf, circuit_gate}
use Rattle.module_box.specs.LocalValues.{IsLocalValuation, IsFirstLocalGateWithoutRow, values_by_local_number}
use Rattle.module_box.specs.Equality.{same_locals, same_signals}
use Rattle.bbm_rule.specs.declared.block.Box2.{Box2}
use Rattle.module_box.specs.declared.tile.TileFault.{TileFault}
use Rattle.module_box.specs.declared.tile.TileFault.TheVariants.{Memory}

-- the same cells of the box are live
abbrev pub SameInBox : Box2 → State → State → Type 0
SameInBox b s s' = (x y : ℤ) → IsTrue (in_box b x y) → s x y ≡ s' x y

-- no cell outside the box is live
abbrev pub IsDeadOutsideBox : Box2 → State → Type 0
IsDeadOutsideBox b s = (x y : ℤ) → IsFalse (in_box b x y) → IsFalse (s x y)

-- An even step keeps what lies in an even box there, and what it makes in the box depends on the box alone
pub record IsEvenStepLocalToBox (b : Box2) (t : ℕ) : Type 0 where
  pub stays : (s : State) → IsDeadOutsideBox b s → IsDeadOutsideBox b (step t s)
  pub local : (s s' : State) → SameInBox b s s' → SameInBox b (step t s) (step t s')

-- An even step maps the cells of an even box into the box, and the cells after it depend on the box alone.
abbrev pub EvenStepStaysInBox : Type 0
EvenStepStaysInBox = (b : Box2) (t : ℕ) → IsEvenBox b → t % 2 ≡ 0 → IsEvenStepLocalToBox b t

-- the same cells of the halo are live
abbrev pub SameInHalo : Box2 → State → State → Type 0
SameInHalo b s s' = (x y : ℤ) → IsTrue (in_halo b x y) → s x y ≡ s' x y

-- The cells of a box after a step of either partition depend on the box and its halo alone.
abbrev pub StepDependsOnBoxAndHalo : Type 0
StepDependsOnBoxAndHalo = (b : Box2) (t : ℕ) (s s' : State) → SameInBox b s s' → SameInHalo b s s' →
    SameInBox b (step t s) (step t s')

-- A cell in the halo of box i that box j has is in the ring of box j
abbrev pub HaloCellIsRingCellOfOwner : Type 0
HaloCellIsRingCellOfOwner = (rectangle : Box2) (boxes : List Box2) → Tile rectangle boxes →
    (i j : ℕ) (b b' : Box2) (x y : ℤ) → slice_get boxes i ≡ Some b → slice_get boxes j ≡ Some b' →
    IsTrue (in_halo b x y) → IsTrue (in_box b' x y) → IsTrue (in_ring b' x y)

-- If `owner_table` names a fault other than out of memory, the boxes do not tile the rectangle.
abbrev pub TileFaultMeansNoTiling : Type 0
TileFaultMeansNoTiling = (w h : ℕ) (boxes : List Box2) (fault : TileFault) → MayHaveOwnerTable w h boxes →
    IsTileFault w h boxes fault → fault ≢ Memory →
    ¬ Tile (rectangle_of w h) boxes

-- Two modules' wires and gates are equal by `==` exactly if they are the same
abbrev pub LocalsEqualityDecides : Type 0
LocalsEqualityDecides = (l m : LocalNet) → Decides (same_locals l m) (l ≡ m)

-- two schedules are equal by `==` exactly if they are the same
abbrev pub ScheduleEqualityDecides : Type 0
ScheduleEqualityDecides = (s t : Signals) → Decides (same_signals s t) (s ≡ t)

-- every choice of values for some cuts is that of an assignment
abbrev pub ChoicesAreAssignments : Type 0
ChoicesAreAssignments = (cuts : ℕ) (values : Valuation) →
    (a : ℕ) × (a < 2 ^ cuts) × ((i : ℕ) → i < cuts → bit a i ≡ values i)

-- under the assignment the values of the circuit's wires are the module's one local valuation
pub record AgreesWithCircuit (l : LocalNet) (v : Valuation) (a : ℕ) : Type 0 where
  pub is_local : IsLocalValuation l a (values_by_local_number l v)
  pub only : (u : Valuation) → IsLocalValuation l a u → (i : ℕ) → i < wires l.netlist →
      u i ≡ values_by_local_number l v i

-- If v satisfies the circuit's netlist, and the assignment gives each cut its value in v, each wire of the module has
-- its value in v.
abbrev pub LocalValuesAgreeWithCircuit : Type 0
LocalValuesAgreeWithCircuit = (n : Netlist) (l : LocalNet) (inputs v : Valuation) (a : ℕ) → AreLocalsOf n l →
    Satisfies n inputs v →
    ((i : ℕ) → i < l.netlist.given → bit a i ≡ values_by_local_number l v i) → AgreesWithCircuit l v a

-- If a gate of the circuit is the first that has no row, it is so in a module that uses it. The assignment gives each
-- cut the value that it has up to there.
abbrev pub UndefinedGateIsSeenLocally : Type 0
UndefinedGateIsSeenLocally = (n : Netlist) (l : LocalNet) (inputs : Valuation) (k place a : ℕ) → AreLocalsOf n l →
    (u : IsFirstGateWithoutRow n inputs k) →
    place < length l.netlist.gates → circuit_gate l place ≡ k →
    ((i : ℕ) → i < l.netlist.given → bit a i ≡ values_by_local_number l u.values i) →
    IsFirstLocalGateWithoutRow l a place
