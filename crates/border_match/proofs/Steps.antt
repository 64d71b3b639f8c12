-- One more event, module or time
use Rattle.border_match.proofs.Imports.{AreReadyBorders, Bool, BorderFault, Borders, HasNoWindowEventBetween}
use Rattle.border_match.proofs.Imports.{Box2, Cell, DiffersAtTimesWithoutEvent, Greater, HasCandidateAtMost}
use Rattle.border_match.proofs.Imports.{IsAtOwnersEdgeEvent, IsAtSomeEventBelow}
use Rattle.border_match.proofs.Imports.{IsFaultOfSearchedJob, IsInOrAroundBox, IsRising, IsWindowAround, JobView, Less}
use Rattle.border_match.proofs.Imports.{List, Moment, None, Option, Signals, Some, TimedSignal, Window, Zero, []}
use Rattle.border_match.proofs.Imports.{all_times_at, ap, ap₂, arith, below_or_from, below_or_same, border_fault_cmp}
use Rattle.border_match.proofs.Imports.{cases_Bool, cell_back, circuit_wire, common_steps, cond-false, event_at, false}
use Rattle.border_match.proofs.Imports.{false≢true, inl, inr, ints, is_moment_at, jobs_of, length, length-map}
use Rattle.border_match.proofs.Imports.{map, moment_cmp, moment_of, moved_cell, moved_event, option_map, pos, refl}
use Rattle.border_match.proofs.Imports.{renumber_signal, same_some, shape_of, shift_to_origin, signal_at, slice_get}
use Rattle.border_match.proofs.Imports.{slice_get-map, slice_get_within, subst, suc, sym}
use Rattle.border_match.proofs.Imports.{tied_itself, true, unwrap_or, ℕ, ℤ, ◌%◌, ◌+◌, ◌<◌, ◌∙◌, ◌∷◌, ◌≡◌, ◌≢◌, ◌≤◌, ◌⊎◌}
use Rattle.lemmas.proofs.Common.{less_nat, three_ways}
use Rattle.module_box.proofs.Rising.{then_moment}
use Rattle.border_match.specs.Boards.{IsAtSomeEvent, IsAtEdgeEventOf}
use Rattle.border_match.proofs.FarEvents.{seen}
use Rattle.border_match.proofs.FaultOrder.{border_total}
use Rattle.border_match.proofs.Least.{covers_after}
use Rattle.border_match.proofs.Cells.{fault_around}

pub same_fault : (time : ℕ) (cell : Cell) (f : BorderFault) → f.time ≡ time → f.cell ≡ cell →
    f ≡ record { time = time; cell = cell }
same_fault time cell f p q = let mk : ℕ → Cell → BorderFault = λ t c. record { time = t; cell = c } in ap₂ mk p q

-- ---- events

pub named_step : (events : List TimedSignal) (i : ℕ) (e : TimedSignal) (f : BorderFault) → slice_get events i ≡ Some e →
    IsAtSomeEventBelow (i + 1) events f →
    IsAtSomeEventBelow i events f ⊎ (f ≡ record { time = e.at.time; cell = e.at.cell })
named_step events i e f got h = elim (below_or_same h.named.place i h.below) [
  | inl lt ↦ inl (record { named = h.named; below = lt })
  | inr same ↦ grind (arith, common_steps, same_some, slice_get, same_fault)
]

-- a fault and a moment are compared alike
compared_alike : (a b : Moment) → border_fault_cmp (record { time = a.time; cell = a.cell })
    (record { time = b.time; cell = b.cell }) ≡ moment_cmp a b
unfolding border_fault_cmp moment_cmp
compared_alike a b = refl

-- if the candidate is at most what one event names, it is at most what the events behind it name
pub rest_covered : (events : List TimedSignal) (i : ℕ) (e : TimedSignal) (o : Option BorderFault) (f : BorderFault) →
    IsRising moment_cmp moment_of events → slice_get events i ≡ Some e →
    HasCandidateAtMost o (record { time = e.at.time; cell = e.at.cell }) → IsAtSomeEvent events f →
    IsAtSomeEventBelow i events f ⊎ HasCandidateAtMost o f
rest_covered events i e o f rising got covered h =
    let at : f ≡ record { time = h.event.at.time; cell = h.event.at.cell } =
    same_fault h.event.at.time h.event.at.cell f (sym h.time) (sym h.cell) in
    elim (three_ways h.place i) [
      | inl lower ↦ inl (record { named = h; below = lower })
      | inr rest ↦ grind (arith, common_steps, same_some, slice_get, covers_after, compared_alike, less_greater)
    ]
  where
    less_greater : Less ≡ Greater → ⊥
    less_greater e = cc

pub named_all : (events : List TimedSignal) (k : ℕ) (f : BorderFault) → length events ≤ k → IsAtSomeEvent events f →
    IsAtSomeEventBelow k events f
named_all events k f le h =
    let within = slice_get_within events h.place h.event h.got in
    record { named = h; below = omega (arith, within) }

-- events that are counted from the corner of their module's box
pub cornered : (other : JobView) (es : List TimedSignal) (moved : Signals) → es ≡ moved.events →
    moved ≡ (shape_of other).edges →
    es ≡ map (moved_event (shift_to_origin other.area.x) (shift_to_origin other.area.y)) other.edges.events
cornered other es moved same are = same ∙ ap (λ (s : Signals). s.events) are

pub cornered_all : (dx dy : ℤ) (es events : List TimedSignal) (k : ℕ) → es ≡ map (moved_event dx dy) events →
    length es ≤ k → length events ≤ k
cornered_all dx dy es events k are le = grind (arith, common_steps, length-map)

-- the events from a place on and before another are at no odd time and cell around the module's box, so they are no
-- faults
pub far_step : (b : Borders) (other : JobView) (a corner : Box2) (w : Window) (es : List TimedSignal) (i next : ℕ)
    (f : BorderFault) → a ≡ b.job.now.area → corner ≡ other.area → IsWindowAround a corner w →
    es ≡ map (moved_event (shift_to_origin other.area.x) (shift_to_origin other.area.y)) other.edges.events →
    HasNoWindowEventBetween w es i next → IsFaultOfSearchedJob b f → IsAtSomeEventBelow next other.edges.events f →
    IsAtSomeEventBelow i other.edges.events f
far_step b other a corner w es i next f same_area same_corner is are far g h =
    elim (below_or_from h.named.place i) [
      | inl lower ↦ record { named = h.named; below = lower }
      | inr from ↦
          let dx = shift_to_origin other.area.x in let dy = shift_to_origin other.area.y in
          let there : slice_get es h.named.place ≡ Some (moved_event dx dy h.named.event) =
          ap (λ l. slice_get l h.named.place) are ∙ slice_get-map (moved_event dx dy) other.edges.events h.named.place
          ∙ ap (option_map (moved_event dx dy)) h.named.got in
          let ex = ap (λ (z : Box2). z.x) same_corner in
          let ey = ap (λ (z : Box2). z.y) same_corner in
          let back : moved_cell (pos corner.x) (pos corner.y) (moved_event dx dy h.named.event).at.cell ≡ f.cell =
          cell_back dx dy (pos corner.x) (pos corner.y) h.named.event.at.cell (omega (arith, ints, ex))
          (omega (arith, ints, ey)) ∙ h.named.cell in
          let at : IsInOrAroundBox a f.cell.x f.cell.y =
          subst (λ (z : Box2). IsInOrAroundBox z f.cell.x f.cell.y) (sym same_area) (fault_around b f g) in
          let odd : h.named.event.at.time % 2 ≡ 1 = ap (λ (t : ℕ). t % 2) h.named.time ∙ g.odd in
          absurd (far h.named.place _ from h.below there odd (seen a corner w _ is
          (subst (λ (c : Cell). IsInOrAroundBox a c.x c.y) (sym back) at)))
    ]

-- ---- modules

other_is : (b : Borders) (k : ℕ) (other : JobView) (f : BorderFault) → slice_get (jobs_of b) k ≡ Some other →
    (h : IsAtEdgeEventOf k b f) → h.0.owner ≡ other
other_is b k other f e h = grind (arith, common_steps, same_some)

pub edges_named : (b : Borders) (k : ℕ) (other : JobView) (f : BorderFault) → slice_get (jobs_of b) k ≡ Some other →
    IsAtEdgeEventOf k b f → IsAtSomeEvent other.edges.events f
edges_named b k other f e h = grind (arith, common_steps, other_is)

-- ---- times

lower_or_eq : (i m : ℕ) → i ≤ m → (i < m) ⊎ (i ≡ m)
lower_or_eq i m h = grind arith

time_less : (m n : BorderFault) → m.time < n.time → border_fault_cmp m n ≡ Less
unfolding border_fault_cmp
time_less m n h = rw (less_nat m.time n.time h)

pub first_is_least : (time : ℕ) (cell : Cell) (f : BorderFault) → time ≤ f.time → f.cell ≡ cell →
    border_fault_cmp (record { time = time; cell = cell }) f ≢ Greater
first_is_least time cell f le same g =
    grind (arith, common_steps, lower_or_eq, time_less, tied_itself, border_total, same_fault)

pub not_before : (a b : ℕ) → (a < b → ⊥) → b ≤ a
not_before a b h = omega arith

pub not_true : (b : Bool) → b ≡ false → b ≡ true → ⊥
not_true b p q = false≢true (sym p ∙ q)

-- ---- a fault is named by an event, or what holds at the other times differs

event_named : (es : List TimedSignal) (f : BorderFault) →
    (event_at es f.time f.cell.x f.cell.y ≡ None) ⊎ IsAtSomeEvent es f
unfolding event_at
event_named [] f = inl refl
event_named (e ∷ es) f = elim (cases_Bool (is_moment_at e.at f.time f.cell.x f.cell.y)) [
  | inl t ↦
      let here : Moment = record { time = f.time; cell = f.cell } in
      let same : e.at ≡ here = then_moment e.at here t in
      inr (record {
        place = 0;
        event = e;
        got = refl;
        time = ap (λ (m : Moment). m.time) same;
        cell = ap (λ (m : Moment). m.cell) same;
      })
  | inr differs ↦ elim (event_named es f) [
    | inl none ↦ inl (cond-false _ _ _ differs ∙ none)
    | inr h ↦ inr (record { place = suc h.place; event = h.event; got = h.got; time = h.time; cell = h.cell })
  ]
]

-- at two times without an event the signals are the same
same_without : (s : Signals) (t t' : ℕ) (x y : ℤ) → event_at s.events t x y ≡ None → event_at s.events t' x y ≡ None →
    signal_at s t x y ≡ signal_at s t' x y
unfolding signal_at
same_without s t t' x y e e' = ap (λ z. unwrap_or (all_times_at s.all_times x y) (unwrap_or z Zero)) (e ∙ sym e')

pub fault_covered : (b : Borders) (f : BorderFault) → AreReadyBorders b → IsFaultOfSearchedJob b f →
    IsAtSomeEvent b.job.now.halos.events f ⊎ (IsAtOwnersEdgeEvent b f ⊎ DiffersAtTimesWithoutEvent b f)
fault_covered b f ready g =
    let x = f.cell.x in
    let y = f.cell.y in
    let d = g.different in
    elim (event_named b.job.now.halos.events f) [
      | inr h ↦ inl h
      | inl none ↦ elim (event_named d.owner.edges.events f) [
        | inr h ↦ inr (inl (record { owner = d.owner; numbered = d.numbered; named = h }))
        | inl none' ↦ inr (inr (record {
          owner = d.owner;
          numbered = d.numbered;
          differ = λ alike. d.differ (
              ap (renumber_signal (circuit_wire b.job.now.locals))
              (same_without b.job.now.halos f.time 0 x y none (ready.1.halos x y)) ∙ alike
              ∙ ap (renumber_signal (circuit_wire d.owner.locals))
              (same_without d.owner.edges 0 f.time x y ((ready.0.quiet _ d.owner d.numbered).edges x y) none'));
        }))
      ]
    ]
