-- Cells of which a line with a star speaks
use Rattle.border_match.proofs.Imports.{AllTimesSignal, AreHaloOwnersListed, AreReadyBorders, BorderFault, Borders}
use Rattle.border_match.proofs.Imports.{Box2, Cell, DiffersAtStarBelow, DiffersAtStarOfAny, DiffersAtTimesWithoutEvent}
use Rattle.border_match.proofs.Imports.{IsFaultOfSearchedJob, IsInOrAroundBox, JobView, List, None, Signals, Some, Zero}
use Rattle.border_match.proofs.Imports.{[], all_times_at, ap, ap₂, arith, below_or_same, cases_Bool, circuit_wire}
use Rattle.border_match.proofs.Imports.{common_steps, cond-false, event_at, get_or, inl, inr, ints, is_cell_at, jobs_of}
use Rattle.border_match.proofs.Imports.{length, length-map, map, moved_all_times, moved_cell, moved_signals, pos, refl}
use Rattle.border_match.proofs.Imports.{renumber_signal, same_some, shift_to_origin, signal_at, signals_back, slice_get}
use Rattle.border_match.proofs.Imports.{slice_get-get_or, slice_get-map, slice_get_within, subst, suc, sym, take}
use Rattle.border_match.proofs.Imports.{take_all, take_more, unwrap_or, ℕ, ℤ, ◌+◌, ◌<◌, ◌∙◌, ◌∷◌, ◌≡◌, ◌≤◌, ◌⊎◌}
use Rattle.bbm_rule.proofs.SameCells.{cell_same}
use Rattle.border_match.specs.Boards.{DiffersAtCellWithoutEvent, DiffersAtStar}
use Rattle.border_match.proofs.Cells.{fault_around, reached}
use Rattle.border_match.proofs.NearModules.{among_more}

-- ---- one more line

-- the cell of the line at this place, moved
star_at : (dx dy : ℤ) (b : Borders) (stars : List AllTimesSignal) (k : ℕ) (d : AllTimesSignal) (f : BorderFault) →
    k < length stars → (h : DiffersAtStar b (map (moved_all_times dx dy) stars) f) → h.place ≡ k →
    moved_cell dx dy (get_or stars k d).cell ≡ f.cell
star_at dx dy b stars k d f lt h same = grind (arith, common_steps, slice_get-map, slice_get-get_or, same_some)

-- the line at this place is for a cell that is not around the module's box, so that no fault is there
pub star_far : (a corner : Box2) (b : Borders) (stars : List AllTimesSignal) (k : ℕ) (d : AllTimesSignal)
    (f : BorderFault) →
    a ≡ b.job.now.area → k < length stars →
    (let at = moved_cell (pos corner.x) (pos corner.y) (get_or stars k d).cell in ¬ IsInOrAroundBox a at.x at.y) →
    IsFaultOfSearchedJob b f → DiffersAtStarBelow (k + 1) b
    (map (moved_all_times (pos corner.x) (pos corner.y)) stars) f →
    DiffersAtStarBelow k b (map (moved_all_times (pos corner.x) (pos corner.y)) stars) f
star_far a corner b stars k d f area lt far g h = elim (below_or_same h.starred.place k h.below) [
  | inl lower ↦ record { starred = h.starred; below = lower }
  | inr same ↦
      let at = star_at (pos corner.x) (pos corner.y) b stars k d f lt h.starred same in
      let around : IsInOrAroundBox a f.cell.x f.cell.y =
      subst (λ (z : Box2). IsInOrAroundBox z f.cell.x f.cell.y) (sym area) (fault_around b f g) in
      absurd (far (subst (λ (c : Cell). IsInOrAroundBox a c.x c.y) (sym at) around))
]

pub star_step : (corner : Box2) (b : Borders) (stars : List AllTimesSignal) (k : ℕ) (d : AllTimesSignal) (c : Cell)
    (f : BorderFault) → k < length stars → c ≡ moved_cell (pos corner.x) (pos corner.y) (get_or stars k d).cell →
    DiffersAtStarBelow (k + 1) b (map (moved_all_times (pos corner.x) (pos corner.y)) stars) f →
    DiffersAtStarBelow k b (map (moved_all_times (pos corner.x) (pos corner.y)) stars) f
    ⊎ DiffersAtCellWithoutEvent b c f
star_step corner b stars k d c f lt is h = elim (below_or_same h.starred.place k h.below) [
  | inl lower ↦ inl (record { starred = h.starred; below = lower })
  | inr same ↦ inr (
    h.starred.differs,
    sym (is ∙ star_at (pos corner.x) (pos corner.y) b stars k d f lt h.starred same),
  )
]

pub star_all : (dx dy : ℤ) (b : Borders) (stars : List AllTimesSignal) (k : ℕ) (f : BorderFault) → length stars ≤ k →
    DiffersAtStar b (map (moved_all_times dx dy) stars) f → DiffersAtStarBelow k b (map (moved_all_times dx dy) stars) f
star_all dx dy b stars k f le h =
    let within = slice_get_within (map (moved_all_times dx dy) stars) h.place h.star h.got in
    let same = length-map stars (moved_all_times dx dy) in
    record { starred = h; below = omega (arith, within, same, le) }

-- ---- lines that count cells from the corner of their module's box

-- counted from the corner of the plane again, they are the job's
pub stars_of : (x y : ℕ) (own moved : Signals) (stars : List AllTimesSignal) → stars ≡ moved.all_times →
    moved ≡ moved_signals (shift_to_origin x) (shift_to_origin y) own →
    map (moved_all_times (pos x) (pos y)) stars ≡ own.all_times
stars_of x y own moved stars same are = grind (arith, common_steps, signals_back, ints)

pub starred_back : (b : Borders) (area corner : Box2) (stars own : List AllTimesSignal) (f : BorderFault) →
    corner ≡ area → map (moved_all_times (pos area.x) (pos area.y)) stars ≡ own → DiffersAtStar b own f →
    DiffersAtStar b (map (moved_all_times (pos corner.x) (pos corner.y)) stars) f
starred_back b area corner stars own f same are h = grind (arith, common_steps)

-- ---- one more module

pub modules_step : (b : Borders) (ks : List ℕ) (i k d : ℕ) (owner : JobView) (f : BorderFault) → i < length ks →
    k ≡ get_or ks i d → slice_get (jobs_of b) k ≡ Some owner → DiffersAtStarOfAny (take (i + 1) ks) b f →
    DiffersAtStarOfAny (take i ks) b f ⊎ DiffersAtStar b owner.edges.all_times f
modules_step b ks i k d owner f lt is got (inl halo) = inl (inl halo)
modules_step b ks i k d owner f lt is got (inr (edge, among)) =
    grind (arith, common_steps, among_more, take_more, same_some)

-- ---- if signals differ at time 0, a line with a star is for the cell of one of the modules

-- a line of the list is for the cell
record IsListed (stars : List AllTimesSignal) (c : Cell) : Type 0 where
  place : ℕ
  star : AllTimesSignal
  got : slice_get stars place ≡ Some star
  cell : star.cell ≡ c

star_named : (stars : List AllTimesSignal) (c : Cell) → (all_times_at stars c.x c.y ≡ None) ⊎ IsListed stars c
unfolding all_times_at
star_named [] c = inl refl
star_named (h ∷ hs) c = elim (cases_Bool (is_cell_at h.cell c.x c.y)) [
  | inl here ↦ inr (record { place = 0; star = h; got = refl; cell = cell_same h.cell c here })
  | inr other ↦ elim (star_named hs c) [
    | inl none ↦ inl (cond-false _ _ _ other ∙ none)
    | inr l ↦ inr (record { place = suc l.place; star = l.star; got = l.got; cell = l.cell })
  ]
]

dead_signal : (s : Signals) (x y : ℤ) → all_times_at s.all_times x y ≡ None → event_at s.events 0 x y ≡ None →
    signal_at s 0 x y ≡ Zero
unfolding signal_at
dead_signal s x y none quiet = ap₂ (λ h z. unwrap_or h (unwrap_or z Zero)) none quiet

pub star_covered : (b : Borders) (ks : List ℕ) (f : BorderFault) (n : ℕ) → AreReadyBorders b →
    AreHaloOwnersListed b ks →
    length ks ≤ n → IsFaultOfSearchedJob b f → DiffersAtTimesWithoutEvent b f → DiffersAtStarOfAny (take n ks) b f
star_covered b ks f n ready noted le g d =
    let x = f.cell.x in let y = f.cell.y in
    elim (star_named b.job.now.halos.all_times f.cell) [
      | inr l ↦ inl (record { differs = d; place = l.place; star = l.star; got = l.got; cell = l.cell })
      | inl halo ↦ elim (star_named d.owner.edges.all_times f.cell) [
        | inr l ↦ grind (arith, common_steps, take_all, reached)
        | inl edge ↦ absurd (d.differ (ap (renumber_signal (circuit_wire b.job.now.locals))
            (dead_signal b.job.now.halos x y halo (ready.1.halos x y))
            ∙ sym (ap (renumber_signal (circuit_wire d.owner.locals))
            (dead_signal d.owner.edges x y edge ((ready.0.quiet _ d.owner d.numbered).edges x y)))))
      ]
    ]
