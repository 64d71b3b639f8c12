-- Marks of the halo events that edges name
use Rattle.border_match.proofs.Imports.{AreHaloEventMarks, AreReadyBorders, Bool, BorderFault, Borders, Cell}
use Rattle.border_match.proofs.Imports.{DiffersAtTimesWithoutEvent, IsAtOwnersEdgeEvent, IsAtUnmarkedEventBelow}
use Rattle.border_match.proofs.Imports.{IsEventListed, IsFaultOfSearchedJob, JobView, List, Moment, Signals, Some}
use Rattle.border_match.proofs.Imports.{TimedSignal, ap, ap₂, arith, below_or_same, cell_back, common_steps, false}
use Rattle.border_match.proofs.Imports.{false≢true, inl, inr, ints, jobs_of, length, map, mapped_from, moved_cell}
use Rattle.border_match.proofs.Imports.{moved_event, moved_signals, owner_of, pos, same_some, shift_to_origin}
use Rattle.border_match.proofs.Imports.{slice_get, slice_get_within, some_at, sym, take, true, ℕ, ℤ, ◌++◌, ◌+◌, ◌∙◌}
use Rattle.border_match.proofs.Imports.{◌≡◌, ◌≤◌, ◌⊎◌}
use Rattle.lemmas.proofs.Common.{take-append_seam}
use Rattle.border_match.specs.Boards.{AddsOnlyMarksOfEventsAt, IsAtEvent, IsEventPlaceOf, IsAtUnmarkedEvent}
use Rattle.border_match.proofs.Steps.{fault_covered, same_fault}

-- ---- one mark more

-- the place of an event that is counted from the corner of the box
pub local_place : (x y : ℕ) (dx dy : ℤ) (cell : Cell) (s moved : Signals) (es : List TimedSignal) (at : Moment)
    (place : ℕ) → dx ≡ shift_to_origin x → dy ≡ shift_to_origin y → cell ≡ moved_cell dx dy at.cell →
    es ≡ moved.events → moved ≡ moved_signals (shift_to_origin x) (shift_to_origin y) s →
    IsEventPlaceOf es (record { time = at.time; cell = cell }) place → IsEventPlaceOf s.events at place
local_place x y dx dy cell s moved es at place ex ey by same are is =
    let sx = shift_to_origin x in let sy = shift_to_origin y in
    let some_at : slice_get (map (moved_event sx sy) s.events) place ≡ Some is.event =
    ap (λ l. slice_get l place) (sym (same ∙ ap (λ (m : Signals). m.events) are)) ∙ is.got in
    let v = mapped_from (moved_event sx sy) s.events place is.event some_at in
    let here = ap (λ (z : TimedSignal). z.at) v.2 ∙ is.same in
    let back : (c : Cell) → moved_cell (pos x) (pos y) (moved_cell sx sy c) ≡ c =
    λ c. cell_back sx sy (pos x) (pos y) c (omega (arith, ints)) (omega (arith, ints)) in
    let cells : v.0.at.cell ≡ at.cell = grind (arith, common_steps) in
    let mk : ℕ → Cell → Moment = λ t c. record { time = t; cell = c } in
    record { event = v.0; got = v.1; same = ap₂ mk (ap (λ (m : Moment). m.time) here) cells }

-- the edge that names what the new mark's event names
pub still_marked : (b : Borders) (other : JobView) (event : TimedSignal) (old new : List Bool) →
    slice_get (jobs_of b) (owner_of b.owners.now event.at.cell.x event.at.cell.y) ≡ Some other →
    IsEventListed other.edges.events event → AddsOnlyMarksOfEventsAt b.job.now.halos.events event.at old new →
    AreHaloEventMarks b old → AreHaloEventMarks b new
still_marked b other event old new owned listed adds marked = grind (arith, common_steps)

-- ---- no mark at first

-- marks that are written back into their vector
pub written_back : (new rest items : List Bool) (n : ℕ) → n ≡ length new → items ≡ take n (new ++ rest) → new ≡ items
written_back new rest items n count is = grind (arith, common_steps, take-append_seam)

-- ---- one event more

pub unmarked_step : (seen : List Bool) (events : List TimedSignal) (i : ℕ) (f : BorderFault) →
    IsAtUnmarkedEventBelow (i + 1) seen events f → slice_get seen i ≡ Some true → IsAtUnmarkedEventBelow i seen events f
unmarked_step seen events i f h marked = elim (below_or_same h.unmarked.named.place i h.below) [
  | inl lt ↦ record { unmarked = h.unmarked; below = lt }
  | inr same ↦ absurd (false≢true (same_some (slice_get seen i) false true
      (ap (slice_get seen) (sym same) ∙ h.unmarked.unmarked) marked))
]

pub event_step : (seen : List Bool) (events : List TimedSignal) (i : ℕ) (e : TimedSignal) (f : BorderFault) →
    slice_get events i ≡ Some e → IsAtUnmarkedEventBelow (i + 1) seen events f →
    IsAtUnmarkedEventBelow i seen events f ⊎ IsAtEvent e f
event_step seen events i e f got h = elim (below_or_same h.unmarked.named.place i h.below) [
  | inl lt ↦ inl (record { unmarked = h.unmarked; below = lt })
  | inr same ↦ grind (arith, common_steps, same_some, slice_get, same_fault)
]

pub unmarked_all : (seen : List Bool) (events : List TimedSignal) (k : ℕ) (f : BorderFault) → length events ≤ k →
    IsAtUnmarkedEvent seen events f → IsAtUnmarkedEventBelow k seen events f
unmarked_all seen events k f le h =
    let within = slice_get_within events h.named.place h.named.event h.named.got in
    record { unmarked = h; below = omega (arith, within) }

-- ---- what a fault is named by

mark_cases : (o : Bool) → (o ≡ true) ⊎ (o ≡ false)
mark_cases o = grind (arith, common_steps)

pub fault_unmarked : (b : Borders) (seen : List Bool) (f : BorderFault) → AreReadyBorders b → AreHaloEventMarks b seen →
    IsFaultOfSearchedJob b f →
    IsAtOwnersEdgeEvent b f ⊎ (IsAtUnmarkedEvent seen b.job.now.halos.events f ⊎ DiffersAtTimesWithoutEvent b f)
fault_unmarked b seen f ready marked g = elim (fault_covered b f ready g) [
  | inl h ↦
      let within = slice_get_within b.job.now.halos.events h.place h.event h.got in
      let sized = marked.sized in
      let mark = some_at seen h.place (omega (arith, within, sized)) in
      elim (mark_cases mark.0) [
        | inl set ↦ inl (marked.edges h.place h.event f (mark.1 ∙ ap Some set) h.got
            (same_fault h.event.at.time h.event.at.cell f (sym h.time) (sym h.cell)))
        | inr unset ↦ inr (inl (record { named = h; unmarked = mark.1 ∙ ap Some unset }))
      ]
  | inr rest ↦ elim rest [
    | inl edge ↦ inl edge
    | inr always ↦ inr (inr always)
  ]
]
