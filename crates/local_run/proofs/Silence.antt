-- Cells that are known to be dead and have no line
use Rattle.local_run.proofs.Imports.{AreNumbersSkippableBetween, Edge, IsDefinedAndHasFault, IsEdgeCorrectAt}
use Rattle.local_run.proofs.Imports.{IsHaloCellAsSignal, IsLeastBelow, IsOutsideBoxFromHalo, IsRunReady, JobView, List}
use Rattle.local_run.proofs.Imports.{None, Planes, ShowsRunAt, Signal, Values, and_parts, ap, ap₂, arith, assignments}
use Rattle.local_run.proofs.Imports.{box_coord, by_eq_or_not, by_lt_or_le, cell_number_at, common_steps, dead_lane}
use Rattle.local_run.proofs.Imports.{false, false≢true, halo_coord, in_box, in_span, inl, inr, is_defined_under}
use Rattle.local_run.proofs.Imports.{is_live, lane, local_run, mul-le-mul_left, refl, signal_at, sym, true, valuation}
use Rattle.local_run.proofs.Imports.{ℕ, ◌%◌, ◌*◌, ◌+◌, ◌-◌, ◌/◌, ◌<◌, ◌∙◌, ◌≡◌, ◌≢◌, ◌≤◌}
use Rattle.lanes.specs.Calm.{AreNumberedCellsDead}
use Rattle.bbm_rule.specs.Marks.{IsNumberUnmarked}
use Rattle.local_run.specs.Quiet.{AreLineMarks}
use Rattle.local_run.specs.Scans.{AreEdgesCorrectAtPlace, AreHaloCellsAsSignalsAtPlace, AreNumberedCellsSilent}
use Rattle.lanes.proofs.InsideLemmas.{in_row}
use Rattle.local_run.proofs.Firsts.{not_in_ring, span_at}
use Rattle.local_run.proofs.QuietLemmas.{outer_same}
use Rattle.local_run.proofs.Stepping.{box_out, outer_inner}
use Rattle.bbm_rule.proofs.RingTests.{ring_in_box}

-- a cell of the box is in the planes as in the run
pub shown_at : (j : JobView) (vs : Values) (p : Planes) (t x y a : ℕ) → ShowsRunAt j vs t p → a < assignments j →
    in_box j.area (halo_coord j.area.x x) (halo_coord j.area.y y) ≡ true →
    lane p a x y ≡ local_run j (valuation vs a) t (halo_coord j.area.x x) (halo_coord j.area.y y)
unfolding in_box
shown_at j vs p t x y a shows la inside =
    let h = and_parts (in_span j.area.x j.area.w (halo_coord j.area.x x))
    (in_span j.area.y j.area.h (halo_coord j.area.y y)) inside in
    let px = span_at j.area.x j.area.w (halo_coord j.area.x x) h.0 in
    let py = span_at j.area.y j.area.h (halo_coord j.area.y y) h.1 in
    let ex : x ≡ 1 + px.number = outer_same j.area.x x (1 + px.number) (px.is ∙ sym (outer_inner j.area.x px.number)) in
    let ey : y ≡ 1 + py.number = outer_same j.area.y y (1 + py.number) (py.is ∙ sym (outer_inner j.area.y py.number)) in
    grind (arith, common_steps, outer_inner)

-- silent cells have no edge fault
pub silent_edges : (j : JobView) (vs : Values) (p : Planes) (t column row : ℕ) → IsRunReady j vs → ShowsRunAt j vs t p →
    column < p.stride → AreNumberedCellsSilent j t p (p.stride * row + column) →
    AreEdgesCorrectAtPlace j vs t column row
silent_edges j vs p t column row ready shows lc silent x y lx ly ex ey a l f =
    let room = ready.room in
    let count = ready.count in
    let s0 = shows.size.0 in
    let number : cell_number_at j.area x y ≡ p.stride * row + column =
    ap₂ (λ r c. (j.area.w / 2 + 1) * r + c) ey ex ∙ ap (λ s. s * row + column) (sym shows.size.1) in
    let inside = ring_in_box j.area _ _ f.1.ring in
    f.1.differs (sym (shown_at j vs p t x y a shows l inside) ∙ silent.dead a x y (omega arith) lx ly number
    ∙ sym (ap (is_live (valuation vs a)) (silent.edge x y lx ly number)))

-- and what their signals say comes to those of them in the halo
pub silent_halo : (j : JobView) (vs : Values) (p : Planes) (t column row : ℕ) → IsRunReady j vs → ShowsRunAt j vs t p →
    AreNumberedCellsSilent j t p (p.stride * row + column) → AreHaloCellsAsSignalsAtPlace j vs t p column row
silent_halo j vs p t column row ready shows silent x y lx ly ex ey a l outside = grind (arith, common_steps)

pub silent_from : (j : JobView) (p : Planes) (t u : ℕ) (marks : List ℕ) → p.stride ≡ j.area.w / 2 + 1 →
    AreNumberedCellsDead u p → AreLineMarks j t marks → IsNumberUnmarked marks u → AreNumberedCellsSilent j t p u
silent_from j p t u marks es dead lines free = grind (arith, common_steps, dead_lane)

-- a place in the box, counted from the halo
pub inner_is_outer : (c k : ℕ) → 1 ≤ k → box_coord c (k - 1) ≡ halo_coord c k
inner_is_outer c k l = sym (ap (halo_coord c) (next k l) ∙ outer_inner c (k - 1))
  where
    next : (k : ℕ) → 1 ≤ k → k ≡ 1 + (k - 1)
    next k l = omega arith

-- ---- cells outside the box have no edge fault
pub outer_edge : (j : JobView) (vs : Values) (t x y : ℕ) → IsOutsideBoxFromHalo j.area x y → IsEdgeCorrectAt j vs t x y
outer_edge j vs t x y out a l f = false≢true (sym (box_out j.area x y out) ∙ ring_in_box j.area _ _ f.1.ring)

pub inner_edge : (j : JobView) (vs : Values) (t x y : ℕ) → 1 ≤ x → 1 ≤ y →
    IsLeastBelow (assignments j) (λ a.
    IsDefinedAndHasFault j vs a t Edge (box_coord j.area.x (x - 1)) (box_coord j.area.y (y - 1))) None →
    IsEdgeCorrectAt j vs t x y
inner_edge j vs t x y lx ly none a l = grind (arith, common_steps, inner_is_outer)

-- nor does a cell that is as its signal says
pub right_edge : (j : JobView) (vs : Values) (p : Planes) (t x y : ℕ) (s : Signal) → ShowsRunAt j vs t p →
    s ≡ signal_at j.edges t (halo_coord j.area.x x) (halo_coord j.area.y y) →
    IsLeastBelow (assignments j) (λ a. (is_defined_under vs a ≡ true) × (lane p a x y ≢ is_live (valuation vs a) s))
    None → IsEdgeCorrectAt j vs t x y
right_edge j vs p t x y s shows es none a l f = grind (arith, common_steps, ring_in_box, shown_at)

-- nor does a dead cell of which no line says something
pub unsaid_edge : (j : JobView) (vs : Values) (p : Planes) (t x y : ℕ) (marks : List ℕ) → IsRunReady j vs →
    ShowsRunAt j vs t p → AreLineMarks j t marks → x < j.area.w + 2 → y < j.area.h + 2 →
    IsNumberUnmarked marks (p.stride * (y / 2) + x / 2 + p.stride * p.rows * (1 + 2 * (y % 2) + x % 2)) →
    ((a : ℕ) → a < 64 * p.words → lane p a x y ≡ false) → IsEdgeCorrectAt j vs t x y
unsaid_edge j vs p t x y marks ready shows lines lx ly free dead a l f =
    let room = ready.room in
    let count = ready.count in
    let s0 = shows.size.0 in
    let free = rw (shows.size.1, shows.size.2) at free in
    let inside = ring_in_box j.area _ _ f.1.ring in
    f.1.differs (sym (shown_at j vs p t x y a shows l inside) ∙ dead a (omega arith)
    ∙ sym (ap (is_live (valuation vs a)) (lines.edges x y lx ly (inr free))))

-- and it is as a halo signal says
pub unsaid_halo : (j : JobView) (vs : Values) (p : Planes) (t x y : ℕ) (marks : List ℕ) → IsRunReady j vs →
    ShowsRunAt j vs t p → AreLineMarks j t marks → x < j.area.w + 2 → y < j.area.h + 2 →
    IsNumberUnmarked marks (p.stride * (y / 2) + x / 2 + p.stride * p.rows * (1 + 2 * (y % 2) + x % 2)) →
    ((a : ℕ) → a < 64 * p.words → lane p a x y ≡ false) → IsHaloCellAsSignal j vs t p x y
unsaid_halo j vs p t x y marks ready shows lines lx ly free dead a l out = grind (arith, common_steps)

-- the four cells in a column and row of the planes
pub four_cells : (c r : ℕ) (P : ℕ → ℕ → Type 0) → P (2 * c) (2 * r) → P (2 * c + 1) (2 * r) → P (2 * c) (2 * r + 1) →
    P (2 * c + 1) (2 * r + 1) → (x y : ℕ) → x / 2 ≡ c → y / 2 ≡ r → P x y
four_cells c r P first second third fourth x y ex ey = grind (arith, common_steps, by_eq_or_not)

-- nor have cells between the ring's columns and rows
pub between_edges : (j : JobView) (vs : Values) (t x y : ℕ) → 2 ≤ x → x < j.area.w → 2 ≤ y → y < j.area.h →
    IsEdgeCorrectAt j vs t x y
between_edges j vs t x y lx hx ly hy a l f =
    let out = rw (inner_is_outer j.area.x x (omega arith), inner_is_outer j.area.y y (omega arith)) at
    (not_in_ring j.area (x - 1) (y - 1) (omega arith) (omega arith) (omega arith) (omega arith)) in
    false≢true (sym out ∙ f.1.ring)

-- ---- the numbers that a look at ring and halo passes
number_in : (j : JobView) (vs : Values) (t : ℕ) (p : Planes) (x y : ℕ) → ShowsRunAt j vs t p →
    cell_number_at j.area x y ≡ p.stride * (y / 2) + x / 2
number_in j vs t p x y shows = ap (λ s. s * (y / 2) + x / 2) (sym shows.size.1)

pub passed_edges : (j : JobView) (vs : Values) (p : Planes) (t x y : ℕ) (marks : List ℕ) → IsRunReady j vs →
    ShowsRunAt j vs t p → AreLineMarks j t marks →
    AreNumbersSkippableBetween (cell_number_at j.area x y) (cell_number_at j.area x y + 1) marks p →
    x < j.area.w + 2 → y < j.area.h + 2 → IsEdgeCorrectAt j vs t x y
passed_edges j vs p t x y marks ready shows lines passed lx ly =
    let s1 = shows.size.1 in
    let s2 = shows.size.2 in
    let even_w = ready.job.even.w in
    let even_h = ready.job.even.h in
    let e = number_in j vs t p x y shows in
    elim (passed (x / 2) (y / 2) (omega arith) (omega arith) (omega (arith, e)) (omega (arith, e))) [
      | inl box_coord ↦ let i0 = box_coord.0 in let i1 = box_coord.1 in let i2 = box_coord.2 in let i3 = box_coord.3 in
          between_edges j vs t x y (omega arith) (omega arith) (omega arith) (omega arith)
      | inr silent ↦ silent_edges j vs p t (x / 2) (y / 2) ready shows (omega arith)
          (silent_from j p t (p.stride * (y / 2) + x / 2) marks s1 silent.0 lines silent.1) x y lx ly refl refl
    ]

pub passed_halo : (j : JobView) (vs : Values) (p : Planes) (t x y : ℕ) (marks : List ℕ) → IsRunReady j vs →
    ShowsRunAt j vs t p → AreLineMarks j t marks →
    AreNumbersSkippableBetween (cell_number_at j.area x y) (cell_number_at j.area x y + 1) marks p →
    x < j.area.w + 2 → y < j.area.h + 2 → IsHaloCellAsSignal j vs t p x y
passed_halo j vs p t x y marks ready shows lines passed lx ly =
    grind (arith, common_steps, common_steps, number_in, silent_halo, silent_from)

-- the cells with a number are those in one column and row
pub same_place : (s column row x y : ℕ) → column < s → x / 2 < s → s * row + column ≡ s * (y / 2) + x / 2 →
    (x / 2 ≡ column) × (y / 2 ≡ row)
same_place s column row x y lc lx e = grind (arith, common_steps, in_row, by_lt_or_le, mul-le-mul_left, by_eq_or_not)
