-- Cells of ring and halo that carry their signals at all times
use Rattle.std.specs.Prelude.{◌≡◌, ℕ, ℤ, true, ◌+◌, ◌*◌, ◌/◌, ◌<◌, ◌≤◌, List, [], length}
use Rattle.bbm_rule.specs.Boxes.{in_ring}
use Rattle.bbm_rule.specs.Marks.{IsNumberUnmarked}
use Rattle.bbm_rule.specs.declared.block.Box2.{Box2}
use Rattle.bbm_rule.specs.declared.block.Cell.{Cell}
use Rattle.lanes.specs.Lanes.{lane}
use Rattle.lanes.specs.Settled.{IsBlockSettled}
use Rattle.lanes.specs.declared.marked_planes.MarkedPlanes.{MarkedPlanes}
use Rattle.lanes.specs.declared.planes.Planes.{Planes}
use Rattle.module_box.specs.Schedules.{Signals, signal_at}
use Rattle.module_box.specs.declared.schedules.Signal.{Signal}
use Rattle.module_job.specs.Jobs.{JobView}
use Rattle.module_job.specs.Signals.{is_live}
use Rattle.local_run.specs.Faults.{assignments}
use Rattle.local_run.specs.Places.{halo_coord}
use Rattle.local_run.specs.Quiet.{cell_number_at}
use Rattle.local_run.specs.Scans.{IsEdgeCorrectAt, IsHaloCellAsSignal, IsOutsideBoxFromHalo, is_defined_under}
use Rattle.local_run.specs.Scans.{valuation}
use Rattle.local_run.specs.declared.values.Values.{Values}

-- the signal of a cell at all times, else `Zero`
abbrev pub all_times_signal : Signals → ℤ → ℤ → Signal
all_times_signal s x y = signal_at (record { all_times = s.all_times; events = [] }) 0 x y

-- the cell is neither in the box nor in its halo
abbrev pub IsOutsideBoxAndHalo : Box2 → Cell → Type 0
IsOutsideBoxAndHalo b c =
    (x y : ℕ) → x < b.w + 2 → y < b.h + 2 → c.x ≡ halo_coord b.x x → c.y ≡ halo_coord b.y y → ⊥

-- the cell has this number in its plane, if it is in the box or its halo
abbrev pub IsNumberOfCell : Box2 → Cell → ℕ → Type 0
IsNumberOfCell b c u = (x y : ℕ) → x < b.w + 2 → y < b.h + 2 → c.x ≡ halo_coord b.x x → c.y ≡ halo_coord b.y y →
    cell_number_at b x y ≡ u

-- that number has a mark
abbrev pub IsCellNumberMarked : Box2 → Cell → List ℕ → Type 0
IsCellNumberMarked b c marks = (x y : ℕ) → x < b.w + 2 → y < b.h + 2 → c.x ≡ halo_coord b.x x → c.y ≡ halo_coord b.y y →
    IsNumberUnmarked marks (cell_number_at b x y) → ⊥

-- there is room for a mark on each number
abbrev pub HasRoomForNumberMarks : Box2 → List ℕ → Type 0
HasRoomForNumberMarks b marks = (b.w / 2 + 1) * (b.h / 2 + 1) ≤ 64 * length marks

-- at the cells whose number has no mark the signal of a schedule at time t is that of all times
abbrev pub AreUnmarkedSignalsSteady : Signals → Box2 → ℕ → List ℕ → Type 0
AreUnmarkedSignalsSteady s b t marks =
    (x y : ℕ) → x < b.w + 2 → y < b.h + 2 → IsNumberUnmarked marks (cell_number_at b x y) →
    signal_at s t (halo_coord b.x x) (halo_coord b.y y) ≡ all_times_signal s (halo_coord b.x x) (halo_coord b.y y)

-- marks that leave no number out of which an edge or halo line of a job says something at time t and not at all times
pub record AreEventMarks (j : JobView) (t : ℕ) (marks : List ℕ) : Type 0 where
  pub edges : AreUnmarkedSignalsSteady j.edges j.area t marks
  pub halos : AreUnmarkedSignalsSteady j.halos j.area t marks

-- The cells with this number carry their signals at all times: those of the halo under each assignment, and those of
-- the ring under each one under which each used gate has a row
pub record MatchesStarsAtNumber (j : JobView) (vs : Values) (p : Planes) (u : ℕ) : Type 0 where
  pub halo : (a x y : ℕ) → a < assignments j → x < j.area.w + 2 → y < j.area.h + 2 → cell_number_at j.area x y ≡ u →
      IsOutsideBoxFromHalo j.area x y →
      lane p a x y ≡ is_live (valuation vs a) (all_times_signal j.halos (halo_coord j.area.x x) (halo_coord j.area.y y))
  pub edge : (a x y : ℕ) → a < assignments j → x < j.area.w + 2 → y < j.area.h + 2 → cell_number_at j.area x y ≡ u →
      in_ring j.area (halo_coord j.area.x x) (halo_coord j.area.y y) ≡ true → is_defined_under vs a ≡ true →
      lane p a x y ≡ is_live (valuation vs a) (all_times_signal j.edges (halo_coord j.area.x x) (halo_coord j.area.y y))

-- so do those of each number that is settled and has no mark
abbrev pub MatchesStarsWhereSettled : JobView → Values → MarkedPlanes → List ℕ → Type 0
MatchesStarsWhereSettled j vs m marks =
    (u : ℕ) → IsBlockSettled m u → IsNumberUnmarked marks u → MatchesStarsAtNumber j vs m.planes u

-- at time t the cells of the halo with this number are what their signals say, and those of the ring carry theirs
pub record AreSignalsCorrectAtNumber (j : JobView) (vs : Values) (t : ℕ) (p : Planes) (u : ℕ) : Type 0 where
  pub halo : (x y : ℕ) → x < j.area.w + 2 → y < j.area.h + 2 → cell_number_at j.area x y ≡ u →
      IsHaloCellAsSignal j vs t p x y
  pub edges : (x y : ℕ) → x < j.area.w + 2 → y < j.area.h + 2 → cell_number_at j.area x y ≡ u →
      IsEdgeCorrectAt j vs t x y
