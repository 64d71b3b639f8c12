-- Cells of which no line of a module says anything
use Rattle.local_run.proofs.Imports.{AllTimesSignal, AreEventPlacesAroundTime, Box2, Cell, HasBothCellMarks, List}
use Rattle.local_run.proofs.Imports.{Signals, Some, TakesNoMarkOff, TimedSignal, Zero, all_times_none, ap, ap₂, arith}
use Rattle.local_run.proofs.Imports.{box_coord, by_lt_or_le, cell_number_at, common_steps, event_none, halo_coord, ints}
use Rattle.local_run.proofs.Imports.{moved_signals, pos, shift_to_origin, signal_at, signals_moved, slice_get, sym, ℕ}
use Rattle.local_run.proofs.Imports.{ℤ, ◌%◌, ◌*◌, ◌+ℤ◌, ◌+◌, ◌-ℤ◌, ◌/◌, ◌<◌, ◌∙◌, ◌≡◌, ◌≤◌}
use Rattle.bbm_rule.specs.Marks.{MarksOneNumber}
use Rattle.local_run.specs.Leaps.{AreEventsLaterFrom}
use Rattle.local_run.specs.Quiet.{AreStarredCellsMarked, AreUnmarkedSignalsZero, LacksOneOfCellMarks}
use Rattle.local_run.specs.Quiet.{cell_line_mark_number_at}
use Rattle.lanes.proofs.LaneLemmas.{place_below}
use Rattle.std.proofs.Math.Nat.{mul-le-mul_left}

pub outer_same : (c a b : ℕ) → halo_coord c a ≡ halo_coord c b → a ≡ b
unfolding halo_coord
outer_same c a b e = omega (arith, ints, e)

pub number_below : (b : Box2) (x y : ℕ) → b.w % 2 ≡ 0 → b.h % 2 ≡ 0 → x < b.w + 2 → y < b.h + 2 →
    cell_number_at b x y < (b.w / 2 + 1) * (b.h / 2 + 1)
number_below b x y ew eh lx ly = grind (arith, common_steps, place_below)

-- the number of a cell's own mark is below that of the last part's end
pub part_within : (n c x y : ℕ) → n < c → n + c * (1 + 2 * (y % 2) + x % 2) < 5 * c
part_within n c x y l = grind (arith, common_steps, mul-le-mul_left)

pub cell_marked : (b : Box2) (c : Cell) (x y : ℕ) (old middle new : List ℕ) → c.x ≡ halo_coord b.x x →
    c.y ≡ halo_coord b.y y → MarksOneNumber (cell_number_at b x y) old middle →
    MarksOneNumber (cell_line_mark_number_at b x y) middle new → HasBothCellMarks b c new
cell_marked b c x y old middle new ex ey one own x' y' lx ly ex' ey' free = grind (arith, common_steps, outer_same)

lacks_line : (b : Box2) (x y : ℕ) (old new : List ℕ) → TakesNoMarkOff old new → LacksOneOfCellMarks b x y new →
    LacksOneOfCellMarks b x y old
lacks_line b x y old new h1 h2 = grind (arith, common_steps)

pub still_marked : (b : Box2) (c : Cell) (old new : List ℕ) → TakesNoMarkOff old new → HasBothCellMarks b c old →
    HasBothCellMarks b c new
still_marked b c old new keeps marked x y lx ly ex ey free = grind (arith, common_steps, lacks_line)

-- where no line names the cell at the time, its signal is `Zero`
pub zero_signal : (s : Signals) (t : ℕ) (x y : ℤ) →
    ((i : ℕ) (h : AllTimesSignal) → slice_get s.all_times i ≡ Some h → (h.cell.x ≡ x) × (h.cell.y ≡ y) → ⊥) →
    ((i : ℕ) (e : TimedSignal) → slice_get s.events i ≡ Some e → e.at.time ≡ t → (e.at.cell.x ≡ x) × (e.at.cell.y ≡ y) →
    ⊥) → signal_at s t x y ≡ Zero
unfolding signal_at
zero_signal s t x y all_times events =
    let h = all_times_none s.all_times (record { x = x; y = y })
    (λ i h at e. all_times i h at (ap (λ (c : Cell). c.x) e, ap (λ (c : Cell). c.y) e)) in
    let v = event_none s.events (record { time = t; cell = record { x = x; y = y } })
    (λ i e at same. events i e at (ap (λ m. m.time) same) (ap (λ m. m.cell.x) same, ap (λ m. m.cell.y) same)) in
    rw (h, v) refl'
  where
    refl' : Zero ≡ Zero
    refl' = cc

pub still_all_times : (s : Signals) (b : Box2) (old new : List ℕ) → TakesNoMarkOff old new →
    AreStarredCellsMarked s b old → AreStarredCellsMarked s b new
still_all_times s b old new keeps all_times i h at = still_marked b h.cell old new keeps (all_times i h at)

pub quiet_in : (s : Signals) (b : Box2) (t : ℕ) (marks : List ℕ) → AreStarredCellsMarked s b marks →
    ((i : ℕ) (e : TimedSignal) → slice_get s.events i ≡ Some e → e.at.time ≡ t → HasBothCellMarks b e.at.cell marks) →
    AreUnmarkedSignalsZero s b t marks
quiet_in s b t marks all_times events x y lx ly free = grind (arith, common_steps, zero_signal)

pub still_quiet : (s : Signals) (b : Box2) (t : ℕ) (old new : List ℕ) → TakesNoMarkOff old new →
    AreUnmarkedSignalsZero s b t old → AreUnmarkedSignalsZero s b t new
still_quiet s b t old new keeps quiet x y lx ly free = quiet x y lx ly (lacks_line b x y old new keeps free)

-- the events from the first one of a time up to the first one of the next
pub events_between : (es : List TimedSignal) (t m n : ℕ) (P : TimedSignal → Type 0) →
    AreEventPlacesAroundTime es t m m → AreEventPlacesAroundTime es (t + 1) n n →
    ((i : ℕ) (e : TimedSignal) → m ≤ i → i < n → slice_get es i ≡ Some e → P e) → (i : ℕ) (e : TimedSignal) →
    slice_get es i ≡ Some e → e.at.time ≡ t → P e
events_between es t m n P from to have i e at same = grind (arith, common_steps, by_lt_or_le)

-- no event is at a time, if those before a place are earlier and the others later
pub events_nowhere : (es : List TimedSignal) (t m n : ℕ) (P : TimedSignal → Type 0) →
    AreEventPlacesAroundTime es t m n →
    AreEventsLaterFrom es m t → (i : ℕ) (e : TimedSignal) → slice_get es i ≡ Some e → e.at.time ≡ t → P e
events_nowhere es t m n P from later i e at same = grind (arith, common_steps)

-- ---- signals counted from the corner of the box
pub outer_back : (c k : ℕ) → halo_coord c k +ℤ shift_to_origin c ≡ halo_coord 0 k
unfolding halo_coord
outer_back c k = omega (arith, ints)

pub quiet_moved : (s : Signals) (b : Box2) (t : ℕ) (marks : List ℕ) →
    AreUnmarkedSignalsZero (moved_signals (shift_to_origin b.x) (shift_to_origin b.y) s)
    (record { x = 0; y = 0; w = b.w; h = b.h }) t marks → AreUnmarkedSignalsZero s b t marks
quiet_moved s b t marks quiet x y lx ly free =
    sym (signals_moved (shift_to_origin b.x) (shift_to_origin b.y) s t (halo_coord b.x x) (halo_coord b.y y))
    ∙ ap₂ (signal_at (moved_signals (shift_to_origin b.x) (shift_to_origin b.y) s) t) (outer_back b.x x)
    (outer_back b.y y)
    ∙ quiet x y lx ly free

-- what a shape carries at a cell, counted from its corner or from its halo, is what the job carries there
inner_back : (c k : ℕ) → box_coord c k +ℤ shift_to_origin c ≡ pos k
unfolding box_coord
inner_back c k = omega (arith, ints)

pub inner_signal : (s : Signals) (b : Box2) (t x y : ℕ) →
    signal_at (moved_signals (shift_to_origin b.x) (shift_to_origin b.y) s) t (pos x) (pos y)
    ≡ signal_at s t (box_coord b.x x) (box_coord b.y y)
inner_signal s b t x y =
    sym (ap₂ (signal_at (moved_signals (shift_to_origin b.x) (shift_to_origin b.y) s) t) (inner_back b.x x)
    (inner_back b.y y))
    ∙ signals_moved (shift_to_origin b.x) (shift_to_origin b.y) s t (box_coord b.x x) (box_coord b.y y)

from_halo : (c k : ℕ) → halo_coord c k +ℤ shift_to_origin c ≡ pos k -ℤ pos 1
unfolding halo_coord
from_halo c k = omega (arith, ints)

pub outer_signal : (s : Signals) (b : Box2) (t x y : ℕ) →
    signal_at (moved_signals (shift_to_origin b.x) (shift_to_origin b.y) s) t (pos x -ℤ pos 1) (pos y -ℤ pos 1)
    ≡ signal_at s t (halo_coord b.x x) (halo_coord b.y y)
outer_signal s b t x y =
    sym (ap₂ (signal_at (moved_signals (shift_to_origin b.x) (shift_to_origin b.y) s) t) (from_halo b.x x)
    (from_halo b.y y))
    ∙ signals_moved (shift_to_origin b.x) (shift_to_origin b.y) s t (halo_coord b.x x) (halo_coord b.y y)
