-- Cells of ring and halo that need no look, since they carry their signals at all times
use Rattle.local_run.proofs.Imports.{AreNumbersSkippableBetween, AreStarredCellMarks, Bool, Box2, Cell, Edge}
use Rattle.local_run.proofs.Imports.{HasNoFaultOfKind, HasWordsStrideRows, IsRunReady, JobView, List, Planes}
use Rattle.local_run.proofs.Imports.{ShowsRunAt, Signals, Some, TakesNoMarkOff, TimedSignal, Values, [], ap, ap₂, arith}
use Rattle.local_run.proofs.Imports.{by_eq_or_not, cell_number_at, common_steps, event_at, event_none, halo_coord, inl}
use Rattle.local_run.proofs.Imports.{inr, length, moved_signals, refl, shape_of, shift_to_origin, signal_at}
use Rattle.local_run.proofs.Imports.{signals_moved, slice_get, subst, sym, ℕ, ℤ, ◌%◌, ◌*◌, ◌+◌, ◌/◌, ◌<◌, ◌∙◌, ◌≡◌, ◌≢◌}
use Rattle.local_run.proofs.Imports.{◌⊎◌}
use Rattle.bbm_rule.specs.Marks.{IsNumberUnmarked, MarksOneNumber}
use Rattle.lanes.specs.Settled.{AreCellsSameAtNumber, AreSettledBlocksUnchanged, IsBlockSettled}
use Rattle.lanes.specs.declared.marked_planes.MarkedPlanes.{MarkedPlanes}
use Rattle.local_run.specs.Quiet.{AreLineMarks, AreUnmarkedSignalsZero, box_at_origin}
use Rattle.local_run.specs.Scans.{IsHaloAsSignals}
use Rattle.local_run.specs.Steady.{AreEventMarks, AreSignalsCorrectAtNumber, AreUnmarkedSignalsSteady}
use Rattle.local_run.specs.Steady.{IsCellNumberMarked, IsNumberOfCell, IsOutsideBoxAndHalo, MatchesStarsAtNumber}
use Rattle.local_run.specs.Steady.{MatchesStarsWhereSettled, all_times_signal}
use Rattle.local_run.proofs.QuietLemmas.{number_below, outer_back, outer_same, quiet_moved, still_quiet}
use Rattle.local_run.proofs.Silence.{passed_edges, passed_halo, shown_at}
use Rattle.bbm_rule.proofs.RingTests.{ring_in_box}

-- ---- signals of a time without an event
steady_signal : (s : Signals) (t : ℕ) (x y : ℤ) →
    ((i : ℕ) (e : TimedSignal) → slice_get s.events i ≡ Some e → e.at.time ≡ t → (e.at.cell.x ≡ x) × (e.at.cell.y ≡ y) →
    ⊥) → signal_at s t x y ≡ all_times_signal s x y
unfolding signal_at event_at
steady_signal s t x y events =
    let v = event_none s.events (record { time = t; cell = record { x = x; y = y } })
    (λ i e at same. events i e at (ap (λ m. m.time) same) (ap (λ m. m.cell.x) same, ap (λ m. m.cell.y) same)) in
    rw v refl'
  where
    refl' : all_times_signal s x y ≡ all_times_signal s x y
    refl' = refl

pub steady_in : (s : Signals) (b : Box2) (t : ℕ) (marks : List ℕ) →
    ((i : ℕ) (e : TimedSignal) → slice_get s.events i ≡ Some e → e.at.time ≡ t → IsCellNumberMarked b e.at.cell marks) →
    AreUnmarkedSignalsSteady s b t marks
steady_in s b t marks events x y lx ly free = steady_signal s t _ _
    (λ i e at same here. events i e at same x y lx ly here.0 here.1 free)

pub still_steady : (s : Signals) (b : Box2) (t : ℕ) (old new : List ℕ) → TakesNoMarkOff old new →
    AreUnmarkedSignalsSteady s b t old → AreUnmarkedSignalsSteady s b t new
still_steady s b t old new keeps steady x y lx ly free = steady x y lx ly (keeps (cell_number_at b x y) free)

-- the number of a cell has a mark after it was made
pub number_marked : (b : Box2) (c : Cell) (u : ℕ) (old new : List ℕ) → IsNumberOfCell b c u → MarksOneNumber u old new →
    IsCellNumberMarked b c new
number_marked b c u old new is one x y lx ly ex ey free = (one (cell_number_at b x y) free).1 (is x y lx ly ex ey)

-- the number of a cell
pub number_of_cell : (b : Box2) (c : Cell) (x y : ℕ) → b.w % 2 ≡ 0 → b.h % 2 ≡ 0 → x < b.w + 2 → y < b.h + 2 →
    c.x ≡ halo_coord b.x x → c.y ≡ halo_coord b.y y →
    (cell_number_at b x y < (b.w / 2 + 1) * (b.h / 2 + 1)) × IsNumberOfCell b c (cell_number_at b x y)
number_of_cell b c x y ew eh lx ly ex ey = grind (arith, common_steps, number_below, outer_same)

pub outside_marked : (b : Box2) (c : Cell) (marks : List ℕ) → IsOutsideBoxAndHalo b c → IsCellNumberMarked b c marks
outside_marked b c marks out x y lx ly ex ey free = out x y lx ly ex ey

pub steady_moved : (s : Signals) (b : Box2) (t : ℕ) (marks : List ℕ) →
    AreUnmarkedSignalsSteady (moved_signals (shift_to_origin b.x) (shift_to_origin b.y) s)
    (record { x = 0; y = 0; w = b.w; h = b.h }) t marks → AreUnmarkedSignalsSteady s b t marks
steady_moved s b t marks steady x y lx ly free =
    sym (signals_moved dx dy s t (halo_coord b.x x) (halo_coord b.y y))
    ∙ ap₂ (signal_at (moved_signals dx dy s) t) (outer_back b.x x) (outer_back b.y y) ∙ steady x y lx ly free
    ∙ sym (ap₂ (all_times_signal (moved_signals dx dy s)) (outer_back b.x x) (outer_back b.y y))
    ∙ signals_moved dx dy (record { all_times = s.all_times; events = [] }) 0 (halo_coord b.x x) (halo_coord b.y y)
  where
    dx : ℤ
    dx = shift_to_origin b.x

    dy : ℤ
    dy = shift_to_origin b.y

-- the marks of both schedules of a job, counted from the corner of its box
pub event_marks_of : (j : JobView) (t : ℕ) (first new : List ℕ) → TakesNoMarkOff first new →
    AreUnmarkedSignalsSteady (shape_of j).edges (box_at_origin (shape_of j)) t first →
    AreUnmarkedSignalsSteady (shape_of j).halos (box_at_origin (shape_of j)) t new → AreEventMarks j t new
event_marks_of j t first new keeps edges halos = grind (arith, common_steps, steady_moved, still_steady)

pub line_marks_of : (j : JobView) (t : ℕ) (old first new : List ℕ) → AreStarredCellMarks (shape_of j) old →
    length new ≡ length old → TakesNoMarkOff first new →
    AreUnmarkedSignalsZero (shape_of j).edges (box_at_origin (shape_of j)) t first →
    AreUnmarkedSignalsZero (shape_of j).halos (box_at_origin (shape_of j)) t new → AreLineMarks j t new
line_marks_of j t old first new starred long keeps edges halos = grind (arith, common_steps, quiet_moved, still_quiet)

-- ---- numbers whose cells carry their signals at all times
same_if_not_other : (a b : Bool) → (a ≢ b → ⊥) → a ≡ b
same_if_not_other a b h = grind (arith, common_steps, common_steps)

-- after ring and halo were looked at, so do all numbers without an event
pub steady_after_check : (j : JobView) (vs : Values) (t : ℕ) (p : Planes) (events : List ℕ) → ShowsRunAt j vs t p →
    t % 2 ≡ 1 → t < j.steps → IsHaloAsSignals j vs t p → HasNoFaultOfKind j vs t Edge → AreEventMarks j t events →
    (u : ℕ) → IsNumberUnmarked events u → MatchesStarsAtNumber j vs p u
steady_after_check j vs t p events shows odd early halo none marks u free =
    grind (arith, common_steps, shown_at, ring_in_box, same_if_not_other)

-- they still do if the cells stay
steady_kept : (j : JobView) (vs : Values) (p q : Planes) (u : ℕ) → IsRunReady j vs →
    HasWordsStrideRows vs.words (j.area.w / 2 + 1) (j.area.h / 2 + 1) p → AreCellsSameAtNumber u p q →
    MatchesStarsAtNumber j vs p u → MatchesStarsAtNumber j vs q u
steady_kept j vs p q u ready size same steady = grind (arith, common_steps)

pub still_settled : (j : JobView) (vs : Values) (m m' : MarkedPlanes) (marks : List ℕ) → IsRunReady j vs →
    HasWordsStrideRows vs.words (j.area.w / 2 + 1) (j.area.h / 2 + 1) m.planes → AreSettledBlocksUnchanged m m' →
    MatchesStarsWhereSettled j vs m marks → MatchesStarsWhereSettled j vs m' marks
still_settled j vs m m' marks ready size keeps steady u is free =
    let k = keeps u is in
    steady_kept j vs m.planes m'.planes u ready size k.1 (steady u k.0 free)

-- after the odd step that follows, so do those that are settled
pub settled_after_odd : (j : JobView) (vs : Values) (t : ℕ) (p : Planes) (m' : MarkedPlanes) (events : List ℕ) →
    IsRunReady j vs → ShowsRunAt j vs t p → t % 2 ≡ 1 → t < j.steps → IsHaloAsSignals j vs t p →
    HasNoFaultOfKind j vs t Edge → AreEventMarks j t events →
    ((u : ℕ) → u < p.stride * p.rows → IsBlockSettled m' u → AreCellsSameAtNumber u p m'.planes) →
    MatchesStarsWhereSettled j vs m' events
settled_after_odd j vs t p m' events ready shows odd early halo none marks same u is free =
    grind (arith, common_steps, number_small, after)
  where
    number_small : (x y : ℕ) → x < j.area.w + 2 → y < j.area.h + 2 → cell_number_at j.area x y ≡ u →
        u < p.stride * p.rows
    number_small x y lx ly at = rw (shows.size.1, shows.size.2, sym at)
        (number_below j.area x y ready.job.even.w ready.job.even.h lx ly)

    after : u < p.stride * p.rows → MatchesStarsAtNumber j vs m'.planes u
    after within = steady_kept j vs p m'.planes u ready shows.size (same u within is)
        (steady_after_check j vs t p events shows odd early halo none marks u free)

-- at the start no number is settled
pub steady_at_start : (j : JobView) (vs : Values) (m m' : MarkedPlanes) (marks : List ℕ) →
    ((u : ℕ) → IsBlockSettled m u → ⊥) → AreSettledBlocksUnchanged m m' → MatchesStarsWhereSettled j vs m' marks
steady_at_start j vs m m' marks none keeps u is free = absurd (none u (keeps u is).0)

-- so they are at the next time: an even step keeps what is settled
pub steady_next : (j : JobView) (vs : Values) (t : ℕ) (m m' m'' : MarkedPlanes) (old new : List ℕ) → IsRunReady j vs →
    ShowsRunAt j vs t m'.planes → t < j.steps → (t % 2 ≡ 1 → IsHaloAsSignals j vs t m'.planes) →
    (t % 2 ≡ 1 → HasNoFaultOfKind j vs t Edge) → (t % 2 ≡ 1 → AreEventMarks j t new) →
    (t % 2 ≡ 0 → (m' ≡ m) × (new ≡ old)) → (t % 2 ≡ 0 → AreSettledBlocksUnchanged m' m'') →
    (t % 2 ≡ 1 → (u : ℕ) → u < m'.planes.stride * m'.planes.rows → IsBlockSettled m'' u →
    AreCellsSameAtNumber u m'.planes m''.planes) → MatchesStarsWhereSettled j vs m old →
    MatchesStarsWhereSettled j vs m'' new
steady_next j vs t m m' m'' old new ready shows early halo none marks unchanged even_step odd_step steady =
    by_eq_or_not (t % 2) 0
    (λ even. let same = unchanged even in
    subst (MatchesStarsWhereSettled j vs m'') (sym same.1)
    (still_settled j vs m' m'' old ready shows.size (even_step even)
    (subst (λ (n : MarkedPlanes). MatchesStarsWhereSettled j vs n old) (sym same.0) steady)))
    (λ not_even. let odd : t % 2 ≡ 1 = omega arith in
    settled_after_odd j vs t m'.planes m'' new ready shows odd early (halo odd) (none odd) (marks odd) (odd_step odd))

-- ---- numbers that need no look
correct_if_steady : (j : JobView) (vs : Values) (t : ℕ) (p : Planes) (events : List ℕ) (u : ℕ) → ShowsRunAt j vs t p →
    AreEventMarks j t events → IsNumberUnmarked events u → MatchesStarsAtNumber j vs p u →
    AreSignalsCorrectAtNumber j vs t p u
correct_if_steady j vs t p events u shows marks free steady = grind (arith, common_steps, shown_at, ring_in_box)

correct_if_skippable : (j : JobView) (vs : Values) (t : ℕ) (p : Planes) (marks : List ℕ) (u : ℕ) → IsRunReady j vs →
    ShowsRunAt j vs t p → AreLineMarks j t marks → AreNumbersSkippableBetween u (u + 1) marks p →
    AreSignalsCorrectAtNumber j vs t p u
correct_if_skippable j vs t p marks u ready shows lines passed = record {
  halo = λ x y lx ly at. passed_halo j vs p t x y marks ready shows lines
      (subst (λ (n : ℕ). AreNumbersSkippableBetween n (n + 1) marks p) (sym at) passed) lx ly;
  edges = λ x y lx ly at. passed_edges j vs p t x y marks ready shows lines
      (subst (λ (n : ℕ). AreNumbersSkippableBetween n (n + 1) marks p) (sym at) passed) lx ly;
}

pub correct_unless_marked : (j : JobView) (vs : Values) (t : ℕ) (m : MarkedPlanes) (lines events last : List ℕ)
    (u : ℕ) → IsRunReady j vs → ShowsRunAt j vs t m.planes → AreLineMarks j t lines → AreEventMarks j t events →
    MatchesStarsWhereSettled j vs m last →
    AreNumbersSkippableBetween u (u + 1) lines m.planes
    ⊎ (IsBlockSettled m u × IsNumberUnmarked events u × IsNumberUnmarked last u) →
    AreSignalsCorrectAtNumber j vs t m.planes u
correct_unless_marked j vs t m lines events last u ready shows marks event_marks steady says = elim says [
  | inl passed ↦ correct_if_skippable j vs t m.planes lines u ready shows marks passed
  | inr s ↦ correct_if_steady j vs t m.planes events u shows event_marks s.1 (steady u s.0 s.2)
]
