-- Border faults by the jobs of the modules, and the parts of a search for them
use Rattle.std.specs.Prelude.{◌≡◌, ◌≢◌, ℕ, ℤ, pos, ◌+◌, ◌+ℤ◌, ◌≤ℤ◌, ◌<◌, ◌-◌, ◌%◌, ◌&&◌, ◌++◌, ◌∷◌, if◌then◌else◌, true}
use Rattle.std.specs.Prelude.{false, List, length, map, [], Bool, ◌≤◌, ◌⊎◌, Some, None, slice_get, IsTrue}
use Rattle.std.specs.List.{All}
use Rattle.std.specs.Arc.{arc_value}
use Rattle.bbm_rule.specs.declared.block.Cell.{Cell}
use Rattle.bbm_rule.specs.Boxes.{in_box, in_halo}
use Rattle.module_box.specs.Locals.{circuit_wire, is_among}
use Rattle.module_box.specs.Schedules.{Signals, event_at, signal_at}
use Rattle.module_box.specs.Tiling.{OwnersView, rectangle, owner_of}
use Rattle.bbm_rule.specs.declared.block.Box2.{Box2}
use Rattle.module_box.specs.declared.schedules.AllTimesSignal.{AllTimesSignal}
use Rattle.module_box.specs.declared.schedules.TimedSignal.{TimedSignal}
use Rattle.module_box.specs.declared.schedules.Moment.{Moment}
use Rattle.module_box.specs.declared.schedules.Signal.{Signal}
use Rattle.module_job.specs.Jobs.{JobView}
use Rattle.module_job.specs.Signals.{renumber_signal}
use Rattle.border_match.specs.declared.borders.Borders.{Borders}
use Rattle.border_match.specs.declared.fault.BorderFault.{BorderFault}
use Rattle.border_match.specs.declared.signals.RingOrHalo.{RingOrHalo}
use Rattle.border_match.specs.declared.signals.RingOrHalo.TheVariants.{Halo, Ring}

-- ---- border faults by jobs

-- what a job says of the cells of its ring, or of its halo
abbrev pub job_signals : RingOrHalo → JobView → Signals
job_signals Ring j = j.edges
job_signals Halo j = j.halos

-- and of one of them, by the wires of the circuit
abbrev pub job_signal : RingOrHalo → JobView → ℕ → ℤ → ℤ → Signal
job_signal b j t x y = renumber_signal (circuit_wire j.locals) (signal_at (job_signals b j) t x y)

-- the job says another thing of the cell (x, y) of its halo than the job of the module that has the cell
pub record DiffersFromOwner (o : OwnersView) (jobs : List JobView) (j : JobView) (t : ℕ) (x y : ℤ) : Type 0 where
  pub owner : JobView
  pub numbered : slice_get jobs (owner_of o x y) ≡ Some owner
  pub differ : job_signal Halo j t x y ≢ job_signal Ring owner t x y

-- a border fault of the module with the job j
pub record IsBorderFaultOfJob (w : Box2) (o : OwnersView) (jobs : List JobView) (j : JobView)
    (f : BorderFault) : Type 0 where
  pub odd : f.time % 2 ≡ 1
  pub early : f.time < j.steps
  pub inside : IsTrue (in_box w f.cell.x f.cell.y)
  pub halo : IsTrue (in_halo j.area f.cell.x f.cell.y)
  pub different : DiffersFromOwner o jobs j f.time f.cell.x f.cell.y

-- the job has no edge event and no halo event at time 0
pub record HasNoEventAtStart (j : JobView) : Type 0 where
  pub halos : (x y : ℤ) → event_at j.halos.events 0 x y ≡ None
  pub edges : (x y : ℤ) → event_at j.edges.events 0 x y ≡ None

-- the event is one of the list
abbrev pub IsEventListed : List TimedSignal → TimedSignal → Type 0
IsEventListed es e = (k : ℕ) × (slice_get es k ≡ Some e)

-- The owner of each cell of the rectangle is the number of the one job whose box has the cell. The cells of a job's
-- edge events are in the rectangle, and the job owns them.
pub record IsOwnerTableOfJobs (w : Box2) (o : OwnersView) (jobs : List JobView) : Type 0 where
  pub same : w ≡ rectangle o
  pub holder : (x y : ℤ) → IsTrue (in_box w x y) →
      (j : JobView) × (slice_get jobs (owner_of o x y) ≡ Some j) × IsTrue (in_box j.area x y)
  pub only : (x y : ℤ) (k : ℕ) (j : JobView) → IsTrue (in_box w x y) → slice_get jobs k ≡ Some j →
      IsTrue (in_box j.area x y) → owner_of o x y ≡ k
  pub edges : (k : ℕ) (j : JobView) (e : TimedSignal) → slice_get jobs k ≡ Some j → IsEventListed j.edges.events e →
      IsTrue (in_box w e.at.cell.x e.at.cell.y) × (owner_of o e.at.cell.x e.at.cell.y ≡ k)
  pub quiet : (k : ℕ) (j : JobView) → slice_get jobs k ≡ Some j → HasNoEventAtStart j

-- ---- a module whose borders are searched, among its neighbours

-- the jobs of the modules
abbrev pub jobs_of : Borders → List JobView
jobs_of b = map arc_value b.jobs.now

-- the owner of each cell is a job whose box has it, and no job has an event at time 0
abbrev pub AreReadyBorders : Borders → Type 0
AreReadyBorders b = IsOwnerTableOfJobs b.whole b.owners.now (jobs_of b) × HasNoEventAtStart b.job.now

-- a border fault of the job that is searched
abbrev pub IsFaultOfSearchedJob : Borders → BorderFault → Type 0
IsFaultOfSearchedJob b f = IsBorderFaultOfJob b.whole b.owners.now (jobs_of b) b.job.now f

-- f is at an odd time below the steps, and at a cell of the halo and of the rectangle
pub record IsAtComparedMoment (b : Borders) (f : BorderFault) : Type 0 where
  pub odd : f.time % 2 ≡ 1
  pub early : f.time < b.job.now.steps
  pub inside : IsTrue (in_box b.whole f.cell.x f.cell.y)
  pub halo : IsTrue (in_halo b.job.now.area f.cell.x f.cell.y)

-- the job that is searched and the module that has the cell say different things of it at the time
abbrev pub SignalsDifferAt : Borders → ℕ → ℤ → ℤ → Type 0
SignalsDifferAt b t x y = DiffersFromOwner b.owners.now (jobs_of b) b.job.now t x y

-- the cell (x, y) is in the columns and rows of the box or next to them, as the cells of its halo are
pub record IsInOrAroundBox (a : Box2) (x y : ℤ) : Type 0 where
  pub left : pos a.x ≤ℤ (x +ℤ pos 1)
  pub right : x ≤ℤ pos (a.x + a.w)
  pub top : pos a.y ≤ℤ (y +ℤ pos 1)
  pub bottom : y ≤ℤ pos (a.y + a.h)

-- ---- which faults a part of the search finds

-- an event of the list is at the time and cell of f
pub record IsAtSomeEvent (events : List TimedSignal) (f : BorderFault) : Type 0 where
  pub place : ℕ
  pub event : TimedSignal
  pub got : slice_get events place ≡ Some event
  pub time : event.at.time ≡ f.time
  pub cell : event.at.cell ≡ f.cell

-- f is at the time and cell of the event
abbrev pub IsAtEvent : TimedSignal → BorderFault → Type 0
IsAtEvent e f = f ≡ record { time = e.at.time; cell = e.at.cell }

-- one of the first k events of the list is at the time and cell of f
pub record IsAtSomeEventBelow (k : ℕ) (events : List TimedSignal) (f : BorderFault) : Type 0 where
  pub named : IsAtSomeEvent events f
  pub below : named.place < k

-- an event of the edges of the module that has f's cell is at the time and cell of f
pub record IsAtOwnersEdgeEvent (b : Borders) (f : BorderFault) : Type 0 where
  pub owner : JobView
  pub numbered : slice_get (jobs_of b) (owner_of b.owners.now f.cell.x f.cell.y) ≡ Some owner
  pub named : IsAtSomeEvent owner.edges.events f

-- an edge event of the module that has f's cell is at f's time and cell, and the module's number is one of these
abbrev pub IsAtEdgeEventOfAny : List ℕ → Borders → BorderFault → Type 0
IsAtEdgeEventOfAny ks b f = IsAtOwnersEdgeEvent b f × IsTrue (is_among ks (owner_of b.owners.now f.cell.x f.cell.y))

-- an edge event of the module that has f's cell is at f's time and cell, and the module's number is k
abbrev pub IsAtEdgeEventOf : ℕ → Borders → BorderFault → Type 0
IsAtEdgeEventOf k b f = IsAtOwnersEdgeEvent b f × (owner_of b.owners.now f.cell.x f.cell.y ≡ k)

-- at time 0, which has no event, the signals of f's cell differ, and so at all times without one
abbrev pub DiffersAtTimesWithoutEvent : Borders → BorderFault → Type 0
DiffersAtTimesWithoutEvent b f = SignalsDifferAt b 0 f.cell.x f.cell.y

-- the signals of f's cell differ without an event, and c is that cell
abbrev pub DiffersAtCellWithoutEvent : Borders → Cell → BorderFault → Type 0
DiffersAtCellWithoutEvent b c f = DiffersAtTimesWithoutEvent b f × (f.cell ≡ c)

-- the signals of f's cell differ without an event, and a line of the list says something of the cell at all times
pub record DiffersAtStar (b : Borders) (stars : List AllTimesSignal) (f : BorderFault) : Type 0 where
  pub differs : DiffersAtTimesWithoutEvent b f
  pub place : ℕ
  pub star : AllTimesSignal
  pub got : slice_get stars place ≡ Some star
  pub cell : star.cell ≡ f.cell

-- the signals of f's cell differ without an event, and one of the first k lines of the list names the cell
pub record DiffersAtStarBelow (k : ℕ) (b : Borders) (stars : List AllTimesSignal) (f : BorderFault) : Type 0 where
  pub starred : DiffersAtStar b stars f
  pub below : starred.place < k

-- the signals of f's cell differ without an event, and an edge line with a star of the cell's module names the cell
pub record DiffersAtOwnersStar (b : Borders) (f : BorderFault) : Type 0 where
  pub owner : JobView
  pub numbered : slice_get (jobs_of b) (owner_of b.owners.now f.cell.x f.cell.y) ≡ Some owner
  pub starred : DiffersAtStar b owner.edges.all_times f

-- The signals of f's cell differ without an event. A halo line with a star of the searched module names the cell, or an
-- edge line with a star of the cell's module does. In the second case that module has one of these numbers.
abbrev pub DiffersAtStarOfAny : List ℕ → Borders → BorderFault → Type 0
DiffersAtStarOfAny ks b f = DiffersAtStar b b.job.now.halos.all_times f
    ⊎ (DiffersAtOwnersStar b f × IsTrue (is_among ks (owner_of b.owners.now f.cell.x f.cell.y)))

-- ---- marks of the halo events that edges name

-- the event at a place of the list is at this time and cell
pub record IsEventPlaceOf (events : List TimedSignal) (at : Moment) (place : ℕ) : Type 0 where
  pub event : TimedSignal
  pub got : slice_get events place ≡ Some event
  pub same : event.at ≡ at

-- each mark is an old one, or one of an event at this time and cell
pub record AddsOnlyMarksOfEventsAt (events : List TimedSignal) (at : Moment) (old new : List Bool) : Type 0 where
  pub sized : length new ≡ length old
  pub marks : (p : ℕ) (e : TimedSignal) → slice_get new p ≡ Some true → slice_get events p ≡ Some e →
      (slice_get old p ≡ Some true) ⊎ (e.at ≡ at)

-- there is a place for a mark for each halo event, and what a marked one names is named by an edge too
pub record AreHaloEventMarks (b : Borders) (seen : List Bool) : Type 0 where
  pub sized : length seen ≡ length b.job.now.halos.events
  pub edges : (p : ℕ) (e : TimedSignal) (f : BorderFault) → slice_get seen p ≡ Some true →
      slice_get b.job.now.halos.events p ≡ Some e → IsAtEvent e f → IsAtOwnersEdgeEvent b f

-- an event of the list without a mark is at the time and cell of f
pub record IsAtUnmarkedEvent (seen : List Bool) (events : List TimedSignal) (f : BorderFault) : Type 0 where
  pub named : IsAtSomeEvent events f
  pub unmarked : slice_get seen named.place ≡ Some false

-- one of the first k events, and one without a mark, is at the time and cell of f
pub record IsAtUnmarkedEventBelow (k : ℕ) (seen : List Bool) (events : List TimedSignal)
    (f : BorderFault) : Type 0 where
  pub unmarked : IsAtUnmarkedEvent seen events f
  pub below : unmarked.named.place < k

-- ---- the modules that have cells of a module's halo

-- these are numbers of modules
abbrev pub AreModuleNumbers : Borders → List ℕ → Type 0
AreModuleNumbers b ks = All (λ k. k < length b.jobs.now) ks

-- each old number is a new one
abbrev pub KeepsAllModuleNumbers : List ℕ → List ℕ → Type 0
KeepsAllModuleNumbers old new = (k : ℕ) → IsTrue (is_among old k) → IsTrue (is_among new k)

-- if the cell (x, y) is in the rectangle and in the halo, the number of the module that has it is one of these
abbrev pub IsOwnerListedIfInHalo : Borders → List ℕ → ℤ → ℤ → Type 0
IsOwnerListedIfInHalo b ks x y = (in_box b.whole x y && in_halo b.job.now.area x y) ≡ true →
    IsTrue (is_among ks (owner_of b.owners.now x y))

-- the numbers list the module that has each cell of the rectangle and the halo
abbrev pub AreHaloOwnersListed : Borders → List ℕ → Type 0
AreHaloOwnersListed b ks = (x y : ℤ) → IsOwnerListedIfInHalo b ks x y

-- if the cell (x, y) is in the rectangle and not in the box, the number of the module that has it is one of these
abbrev pub IsOwnerListedIfOutsideBox : Borders → List ℕ → ℤ → ℤ → Type 0
IsOwnerListedIfOutsideBox b ks x y = in_box b.whole x y ≡ true → in_box b.job.now.area x y ≡ false →
    IsTrue (is_among ks (owner_of b.owners.now x y))

-- the numbers list the module that has each cell of the area, if the cell is in the rectangle and not in the box
abbrev pub AreOutsideOwnersListed : Borders → List ℕ → Box2 → Type 0
AreOutsideOwnersListed b ks a = (x y : ℤ) → IsTrue (in_box a x y) → IsOwnerListedIfOutsideBox b ks x y

-- `IsOwnerListedIfOutsideBox` holds of each cell in the rows from y on and before z and in the columns of the halo
-- before x.
abbrev pub AreOwnersListedToColumn : Borders → List ℕ → ℕ → ℕ → ℕ → Type 0
AreOwnersListedToColumn b ks y z x =
    (c r : ℕ) → b.job.now.area.x - 1 ≤ c → c < x → y ≤ r → r < z → IsOwnerListedIfOutsideBox b ks (pos c) (pos r)

-- `IsOwnerListedIfOutsideBox` holds of each cell in the rows from y on and before z and in all columns of the halo.
abbrev pub AreOwnersListedInRows : Borders → List ℕ → ℕ → ℕ → Type 0
AreOwnersListedInRows b ks y z = AreOwnersListedToColumn b ks y z (b.job.now.area.x + b.job.now.area.w + 1)

-- the numbers with one more behind them, unless it is among them
abbrev pub with_number_once : List ℕ → ℕ → List ℕ
with_number_once ks k = if is_among ks k then ks else ks ++ k ∷ []
