-- The run of a job under all assignments, and the first of its faults
use Rattle.std.specs.Prelude.{◌≡◌, ◌≢◌, Bool, true, false, ℕ, ℤ, ◌+◌, ◌*◌, ◌/◌, ◌%◌, ◌<◌, ◌≤◌, ◌<ℤ◌, List, length}
use Rattle.std.specs.Prelude.{slice_get, Option, Some, None, ◌⊎◌}
use Rattle.circuit.specs.Meaning.{Valuation, AreGatesOrdered, wires}
use Rattle.module_box.specs.LocalValues.{AreValueRows, bit_of_row, value_of}
use Rattle.module_box.specs.Schedules.{signal_at}
use Rattle.bbm_rule.specs.declared.block.Box2.{Box2}
use Rattle.module_box.specs.declared.schedules.Signal.{Signal}
use Rattle.module_box.specs.declared.schedules.Signal.TheVariants.{Zero, One, Wire}
use Rattle.module_job.specs.Jobs.{JobView, IsJob}
use Rattle.module_job.specs.Signals.{is_live}
use Rattle.module_job.specs.declared.job.Stop as listed
use Rattle.local_run.specs.Faults.{IsFaultUnderValues, assignments}
use Rattle.lanes.specs.Lanes.{HasWordsStrideRows, lane}
use Rattle.local_run.specs.Places.{box_coord, halo_coord}
use Rattle.local_run.specs.Quiet.{cell_number_at}
use Rattle.local_run.specs.Runs.{local_run}
use Rattle.local_run.specs.declared.fault.Fault.{Fault}
use Rattle.local_run.specs.declared.fault.Kind.{Kind}
use Rattle.local_run.specs.declared.fault.Kind.TheVariants.{Edge, Stop, End}
use Rattle.lanes.specs.declared.planes.Planes.{Planes}
use Rattle.local_run.specs.declared.values.Values.{Values}

-- the least number below n of which a fact holds
abbrev pub IsLeastBelow : ℕ → (ℕ → Type 0) → Option ℕ → Type 0
IsLeastBelow n P None = (a : ℕ) → a < n → ¬ P a
IsLeastBelow n P (Some a) = (a < n) × P a × ((b : ℕ) → b < a → ¬ P b)

-- the values of the wires under assignment a
abbrev pub valuation : Values → ℕ → Valuation
valuation vs a = value_of vs.words vs.rows.values.items a

-- whether each used gate has a row under assignment a
abbrev pub is_defined_under : Values → ℕ → Bool
is_defined_under vs a = bit_of_row vs.rows.defined.items a

-- if each used gate has a row, the values of the wires stay: in rows of words, with the row of the assignments that
-- are so
abbrev pub KeepsDefinedValues : List ℕ → List ℕ → List ℕ → Type 0
KeepsDefinedValues defined old new =
    (a w : ℕ) → a < 64 * length defined → bit_of_row defined a ≡ true →
    value_of (length defined) new a w ≡ value_of (length defined) old a w

-- each used gate has a row under assignment a, and the job has the fault
abbrev pub IsDefinedAndHasFault : JobView → Values → ℕ → ℕ → Kind → ℤ → ℤ → Type 0
IsDefinedAndHasFault j vs a t kind x y =
    (is_defined_under vs a ≡ true) × IsFaultUnderValues j (valuation vs a) t kind x y

-- each used gate has a row under assignment a, and at the stop's time its cell is not as its wire
abbrev pub IsStopMissed : JobView → Values → ℕ → listed.Stop → Type 0
IsStopMissed j vs a s = (is_defined_under vs a ≡ true)
    × (local_run j (valuation vs a) s.at.time s.at.cell.x s.at.cell.y ≢ valuation vs a s.wire)

-- there is a row for the wire that it names
abbrev pub HasValueRow : Values → Signal → Type 0
HasValueRow vs Zero = Unit {0}
HasValueRow vs One = Unit {0}
HasValueRow vs (Wire w) = vs.words * w + vs.words ≤ length vs.rows.values.items

-- what a run needs of a job and of the values of its wires
pub record IsRunReady (j : JobView) (vs : Values) : Type 0 where
  pub job : IsJob j
  pub ordered : AreGatesOrdered j.locals.netlist.given j.locals.netlist.gates
  pub wide : (0 < vs.words) × (vs.words ≤ 64)
  pub count : vs.count ≡ assignments j
  pub room : vs.count ≤ 64 * vs.words
  pub long : vs.words * wires j.locals.netlist ≤ length vs.rows.values.items
  pub rows : AreValueRows j.locals.netlist vs.words vs.rows

-- the cells of the box are those of the run at time t, under each assignment
pub record ShowsRunAt (j : JobView) (vs : Values) (t : ℕ) (p : Planes) : Type 0 where
  pub size : HasWordsStrideRows vs.words (j.area.w / 2 + 1) (j.area.h / 2 + 1) p
  pub cells : (a x y : ℕ) → a < assignments j → x < j.area.w → y < j.area.h →
      lane p a (1 + x) (1 + y) ≡ local_run j (valuation vs a) t (box_coord j.area.x x) (box_coord j.area.y y)

-- whether faults of the kind are sought at the time, cell by cell
abbrev pub IsKindScannedAt : JobView → ℕ → Kind → Type 0
IsKindScannedAt j t Edge = (t % 2 ≡ 1) × (t < j.steps)
IsKindScannedAt j t Stop = ⊥
IsKindScannedAt j t End = t ≡ j.steps

-- How far apart the cells of row y of a box are that can have a fault of the kind: next to each other, or the first and
-- the last
pub record IsEndToEndStride (kind : Kind) (w h y stride : ℕ) : Type 0 where
  pub edge : Edge ≡ kind
  pub between : (1 ≤ y) × (y + 1 < h)
  pub ends : stride + 1 ≡ w

-- a distance at which a scan of row y looks at each cell that can have a fault of the kind
abbrev pub IsScanStride : Kind → ℕ → ℕ → ℕ → ℕ → Type 0
IsScanStride kind w h y stride = (1 ≤ stride) × (stride ≤ 64) × ((stride ≡ 1) ⊎ IsEndToEndStride kind w h y stride)

-- f comes first among the faults of a kind at a time
pub record IsFirstFaultOfKind (j : JobView) (vs : Values) (t : ℕ) (kind : Kind) (f : Fault) : Type 0 where
  pub at_time : f.time ≡ t
  pub same_kind : f.kind ≡ kind
  pub small : f.assignment < assignments j
  pub fault : IsDefinedAndHasFault j vs f.assignment t kind f.cell.x f.cell.y
  pub row : (x y : ℤ) (a : ℕ) → a < assignments j → y <ℤ f.cell.y → ¬ IsDefinedAndHasFault j vs a t kind x y
  pub column : (x : ℤ) (a : ℕ) → a < assignments j → x <ℤ f.cell.x → ¬ IsDefinedAndHasFault j vs a t kind x f.cell.y
  pub assignment : (a : ℕ) → a < f.assignment → ¬ IsDefinedAndHasFault j vs a t kind f.cell.x f.cell.y

-- there is no fault of the kind at the time
abbrev pub HasNoFaultOfKind : JobView → Values → ℕ → Kind → Type 0
HasNoFaultOfKind j vs t kind = (x y : ℤ) (a : ℕ) → a < assignments j → ¬ IsDefinedAndHasFault j vs a t kind x y

-- a cell, counted from the halo, is what the signal says under the assignments of this many words
abbrev pub IsCellAsSignalUnderWords : Values → Planes → ℕ → ℕ → Signal → ℕ → Type 0
IsCellAsSignalUnderWords vs p x y signal words =
    (a : ℕ) → a < 64 * words → lane p a x y ≡ is_live (valuation vs a) signal

-- a cell, counted from the halo, becomes what the signal says, and no other changes
pub record PutsSignalInCell (vs : Values) (x y : ℕ) (signal : Signal) (p q : Planes) : Type 0 where
  pub size : HasWordsStrideRows p.words p.stride p.rows q
  pub there : (a : ℕ) → a < 64 * vs.words → lane q a x y ≡ is_live (valuation vs a) signal
  pub rest : (a x' y' : ℕ) → a < 64 * vs.words → x' / 2 < p.stride → ((x' ≡ x) × (y' ≡ y) → ⊥) →
      lane q a x' y' ≡ lane p a x' y'

-- whether a cell, counted from the halo, is outside the box
abbrev pub IsOutsideBoxFromHalo : Box2 → ℕ → ℕ → Type 0
IsOutsideBoxFromHalo b x y = (1 ≤ x) × (x ≤ b.w) × (1 ≤ y) × (y ≤ b.h) → ⊥

-- the cell of the halo is what its signal says, under each assignment
abbrev pub IsHaloCellAsSignal : JobView → Values → ℕ → Planes → ℕ → ℕ → Type 0
IsHaloCellAsSignal j vs t p x y = (a : ℕ) → a < assignments j → IsOutsideBoxFromHalo j.area x y →
    lane p a x y ≡ is_live (valuation vs a) (signal_at j.halos t (halo_coord j.area.x x) (halo_coord j.area.y y))

-- all cells of the halo are
abbrev pub IsHaloAsSignals : JobView → Values → ℕ → Planes → Type 0
IsHaloAsSignals j vs t p = (x y : ℕ) → x < j.area.w + 2 → y < j.area.h + 2 → IsHaloCellAsSignal j vs t p x y

-- no cell changes but the one at (x, y), counted from the halo
abbrev pub IsSameButAtCell : JobView → Planes → Planes → ℕ → ℕ → Type 0
IsSameButAtCell j p q x y = (a x' y' : ℕ) → a < assignments j → x' < j.area.w + 2 → ((x' ≡ x) × (y' ≡ y) → ⊥) →
    lane q a x' y' ≡ lane p a x' y'

-- the stops before this place are at earlier times than t, and all others are not
pub record IsNextStop (j : JobView) (t place : ℕ) : Type 0 where
  pub within : place ≤ length j.stops
  pub before : (k : ℕ) (s : listed.Stop) → k < place → slice_get j.stops k ≡ Some s → s.at.time < t
  pub from : (k : ℕ) (s : listed.Stop) → place ≤ k → slice_get j.stops k ≡ Some s → t ≤ s.at.time

-- no cell has an edge fault at the time, if the time is odd
abbrev pub HasNoEdgeFaultAtOddTime : JobView → Values → ℕ → Type 0
HasNoEdgeFaultAtOddTime j vs t = t % 2 ≡ 1 → HasNoFaultOfKind j vs t Edge

-- f comes first among all faults at a time before the last
abbrev pub IsFirstFaultAt : JobView → Values → ℕ → Fault → Type 0
IsFirstFaultAt j vs t f = ((t % 2 ≡ 1) × IsFirstFaultOfKind j vs t Edge f)
    ⊎ (HasNoEdgeFaultAtOddTime j vs t × IsFirstFaultOfKind j vs t Stop f)

-- a time before the last without a fault: the place is that of the next stop after it
pub record IsTimeWithoutFault (j : JobView) (vs : Values) (t place : ℕ) : Type 0 where
  pub next : IsNextStop j (t + 1) place
  pub edges : HasNoEdgeFaultAtOddTime j vs t
  pub stops : HasNoFaultOfKind j vs t Stop

-- The cells of box and halo with this number, one in each plane, are dead under each assignment, and their signals at
-- time t are `Zero`
pub record AreNumberedCellsSilent (j : JobView) (t : ℕ) (p : Planes) (u : ℕ) : Type 0 where
  pub dead : (a x y : ℕ) → a < 64 * p.words → x < j.area.w + 2 → y < j.area.h + 2 → cell_number_at j.area x y ≡ u →
      lane p a x y ≡ false
  pub edge : (x y : ℕ) → x < j.area.w + 2 → y < j.area.h + 2 → cell_number_at j.area x y ≡ u →
      signal_at j.edges t (halo_coord j.area.x x) (halo_coord j.area.y y) ≡ Zero
  pub halo : (x y : ℕ) → x < j.area.w + 2 → y < j.area.h + 2 → cell_number_at j.area x y ≡ u →
      signal_at j.halos t (halo_coord j.area.x x) (halo_coord j.area.y y) ≡ Zero

-- the cells of the halo in this column and row of the planes are what their signals say
abbrev pub AreHaloCellsAsSignalsAtPlace : JobView → Values → ℕ → Planes → ℕ → ℕ → Type 0
AreHaloCellsAsSignalsAtPlace j vs t p column row =
    (x y : ℕ) → x < j.area.w + 2 → y < j.area.h + 2 → x / 2 ≡ column → y / 2 ≡ row → IsHaloCellAsSignal j vs t p x y

-- no cell changes but those in this column and row of the planes
abbrev pub IsSameButAtPlace : JobView → Planes → Planes → ℕ → ℕ → Type 0
IsSameButAtPlace j p q column row = (a x y : ℕ) → a < assignments j → x < j.area.w + 2 →
    ((x / 2 ≡ column) × (y / 2 ≡ row) → ⊥) → lane q a x y ≡ lane p a x y

-- the cells of the halo with the numbers from one to another are what their signals say
abbrev pub AreNumberedHaloCellsAsSignals : JobView → Values → ℕ → ℕ → ℕ → Planes → Type 0
AreNumberedHaloCellsAsSignals j vs t from end p =
    (x y : ℕ) → x < j.area.w + 2 → y < j.area.h + 2 → from ≤ cell_number_at j.area x y →
    cell_number_at j.area x y < end → IsHaloCellAsSignal j vs t p x y

-- no cell changes whose number is before this one
abbrev pub IsSameBeforeNumber : JobView → Planes → Planes → ℕ → Type 0
IsSameBeforeNumber j p q end = (a x y : ℕ) → a < assignments j → x < j.area.w + 2 → cell_number_at j.area x y < end →
    lane q a x y ≡ lane p a x y

-- a cell, counted from the halo, is outside the ring or carries what its signal says, wherever each used gate has a row
abbrev pub IsEdgeCorrectAt : JobView → Values → ℕ → ℕ → ℕ → Type 0
IsEdgeCorrectAt j vs t x y = (a : ℕ) → a < assignments j →
    ¬ IsDefinedAndHasFault j vs a t Edge (halo_coord j.area.x x) (halo_coord j.area.y y)

-- each cell of the ring with a number from one to another carries what its signal says
abbrev pub AreEdgesCorrectBetweenNumbers : JobView → Values → ℕ → ℕ → ℕ → Type 0
AreEdgesCorrectBetweenNumbers j vs t from end =
    (x y : ℕ) → x < j.area.w + 2 → y < j.area.h + 2 → from ≤ cell_number_at j.area x y →
    cell_number_at j.area x y < end → IsEdgeCorrectAt j vs t x y

-- each cell of the ring in this column and row of the planes carries what its signal says
abbrev pub AreEdgesCorrectAtPlace : JobView → Values → ℕ → ℕ → ℕ → Type 0
AreEdgesCorrectAtPlace j vs t column row =
    (x y : ℕ) → x < j.area.w + 2 → y < j.area.h + 2 → x / 2 ≡ column → y / 2 ≡ row → IsEdgeCorrectAt j vs t x y
