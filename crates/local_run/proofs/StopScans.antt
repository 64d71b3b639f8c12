-- Stops in their order, and the first of them that has a fault
use Rattle.local_run.proofs.Imports.{HasNoFaultOfKind, IsFirstFaultOfKind, IsLeastBelow, IsNextStop, IsRising}
use Rattle.local_run.proofs.Imports.{IsStopFault, JobView, Less, Moment, None, Some, Stop, Valuation, Values, ap, arith}
use Rattle.local_run.proofs.Imports.{assignments, cases_lt, cell_cmp, common_steps, get_or, inl, inr, int_equal, ints}
use Rattle.local_run.proofs.Imports.{is_defined_under, length, local_run, moment_cmp, nat_equal, refl, same_Some}
use Rattle.local_run.proofs.Imports.{slice_get, slice_get-get_or, slice_get_within, subst, sym, three_ways, true}
use Rattle.local_run.proofs.Imports.{valuation, ℕ, ℤ, ◌+◌, ◌<ℤ◌, ◌<◌, ◌∙◌, ◌≡◌, ◌≢◌, ◌≤◌, ◌⊎◌}
use Rattle.lemmas.proofs.Common.{below_or_same, int_less, nat_less, then_less}
use Rattle.module_job.specs.Jobs.{stop_moment}
use Rattle.local_run.specs.Scans.{IsStopMissed}
use Rattle.local_run.proofs.LeapLemmas.{later_in_time}
use Rattle.module_job.specs.declared.job.Stop as listed

-- ---- the order of moments

-- a cell comes after another, by y and x
abbrev pub IsLater : ℤ → ℤ → ℤ → ℤ → Type 0
IsLater x y x' y' = (y <ℤ y') ⊎ ((y ≡ y') × (x <ℤ x'))

later_moment : (m n : Moment) → moment_cmp m n ≡ Less →
    (m.time < n.time) ⊎ ((m.time ≡ n.time) × IsLater m.cell.x m.cell.y n.cell.x n.cell.y)
unfolding moment_cmp cell_cmp
later_moment m n h = grind (arith, common_steps, then_less, nat_less, nat_equal, int_less, int_equal)

-- ---- the stops that were looked at

-- No stop at time t before this place has a fault, and those from it on are not earlier.
pub record AreTried (j : JobView) (vs : Values) (t place : ℕ) : Type 0 where
  pub within : place ≤ length j.stops
  pub before : (k : ℕ) (s : listed.Stop) → k < place → slice_get j.stops k ≡ Some s → s.at.time ≤ t
  pub from : (k : ℕ) (s : listed.Stop) → place ≤ k → slice_get j.stops k ≡ Some s → t ≤ s.at.time
  pub free : (k : ℕ) (s : listed.Stop) (a : ℕ) → k < place → slice_get j.stops k ≡ Some s → s.at.time ≡ t →
      a < assignments j → ¬ IsStopMissed j vs a s

-- a stop more
pub one_more : (j : JobView) (vs : Values) (t place : ℕ) (s : listed.Stop) → AreTried j vs t place →
    slice_get j.stops place ≡ Some s → s.at.time ≡ t →
    IsLeastBelow (assignments j) (λ b. IsStopMissed j vs b s) None → AreTried j vs t (place + 1)
one_more j vs t place s tried e at none = grind (arith, common_steps, slice_get_within, below_or_same, same_Some)

-- the stop of a fault stands in the list
stop_at : (j : JobView) (u : Valuation) (t : ℕ) (x y : ℤ) (f : IsStopFault j u t x y) →
    slice_get j.stops f.is_listed.0 ≡ Some f.stop
stop_at j u t x y f = slice_get-get_or j.stops f.is_listed.0 f.stop f.is_listed.1 ∙ ap Some f.is_listed.2

-- where no stop before this place has a fault, one that has stands at it or later, and then so does its cell
where_it_is : (j : JobView) (vs : Values) (t place a : ℕ) (s : listed.Stop) (x y : ℤ) →
    IsRising moment_cmp stop_moment j.stops → AreTried j vs t place → slice_get j.stops place ≡ Some s →
    s.at.time ≡ t → a < assignments j → is_defined_under vs a ≡ true → (f : IsStopFault j (valuation vs a) t x y) →
    (f.stop ≡ s) ⊎ IsLater s.at.cell.x s.at.cell.y x y
where_it_is j vs t place a s x y rising tried e at la whole f =
    let h : slice_get j.stops f.is_listed.0 ≡ Some f.stop = stop_at j (valuation vs a) t x y f in
    elim (three_ways f.is_listed.0 place) [
      | inl lt ↦ absurd (tried.free f.is_listed.0 f.stop a lt h f.time la
          (whole, (λ is. f.differs (sym place_is ∙ is))))
      | inr (inl same) ↦ inl (same_Some _ _ (sym h ∙ ap (slice_get j.stops) same ∙ e))
      | inr (inr gt) ↦ grind (arith, common_steps, later_moment)
    ]
  where
    place_is : local_run j (valuation vs a) f.stop.at.time f.stop.at.cell.x f.stop.at.cell.y
        ≡ local_run j (valuation vs a) t x y
    place_is = λ i. local_run j (valuation vs a) (f.time i) (f.column i) (f.row i)

less_itself : (z : ℤ) → ¬ (z <ℤ z)
less_itself z l = omega (arith, ints, l)

not_before : (x y x' y' : ℤ) → IsLater x y x' y' → ¬ (y' <ℤ y)
not_before x y x' y' (inl l) m = omega (arith, ints, l, m)
not_before x y x' y' (inr p) m = omega (arith, ints, p.0, m)

not_left : (x y x' : ℤ) → IsLater x y x' y → ¬ (x' <ℤ x)
not_left x y x' (inl l) m = less_itself y l
not_left x y x' (inr p) m = omega (arith, ints, p.1, m)

not_itself : (x y : ℤ) → ¬ IsLater x y x y
not_itself x y = grind (arith, common_steps, less_itself)

pub stop_first : (j : JobView) (vs : Values) (t place a : ℕ) (s : listed.Stop) →
    IsRising moment_cmp stop_moment j.stops → AreTried j vs t place → slice_get j.stops place ≡ Some s →
    s.at.time ≡ t → IsLeastBelow (assignments j) (λ b. IsStopMissed j vs b s) (Some a) →
    IsFirstFaultOfKind j vs t Stop (record { time = t; kind = Stop; cell = s.at.cell; assignment = a })
stop_first j vs t place a s rising tried e at least = record {
  at_time = refl;
  same_kind = refl;
  small = least.0;
  fault = (
    least.1.0,
    record {
      stop = s;
      is_listed = (place, slice_get_within j.stops place s e, there);
      time = at;
      column = refl;
      row = refl;
      differs = subst (λ (n : ℕ). local_run j (valuation vs a) n s.at.cell.x s.at.cell.y ≢ valuation vs a s.wire) at
          least.1.1;
    },
  );
  row = λ x y b lb less f. elim (where_it_is j vs t place b s x y rising tried e at lb f.0 f.1) [
    | inl same ↦ less_itself s.at.cell.y
        (subst (λ (z : ℤ). z <ℤ s.at.cell.y) (sym f.1.row ∙ ap (λ (r : listed.Stop). r.at.cell.y) same) less)
    | inr later ↦ not_before s.at.cell.x s.at.cell.y x y later less
  ];
  column = λ x b lb less f. elim (where_it_is j vs t place b s x s.at.cell.y rising tried e at lb f.0 f.1) [
    | inl same ↦ less_itself s.at.cell.x
        (subst (λ (z : ℤ). z <ℤ s.at.cell.x) (sym f.1.column ∙ ap (λ (r : listed.Stop). r.at.cell.x) same) less)
    | inr later ↦ not_left s.at.cell.x s.at.cell.y x later less
  ];
  assignment = λ b less f. (let lb : b < assignments j = (let la = least.0 in omega (arith, la, less)) in
      elim (where_it_is j vs t place b s s.at.cell.x s.at.cell.y rising tried e at lb f.0 f.1) [
        | inl same ↦ least.2 b less (
          f.0,
          λ is. f.1.differs (ap (λ (n : ℕ). local_run j (valuation vs b) n s.at.cell.x s.at.cell.y) (sym at) ∙ is
              ∙ ap (λ (r : listed.Stop). valuation vs b r.wire) (sym same)),
        )
        | inr later ↦ not_itself s.at.cell.x s.at.cell.y later
      ]);
}
  where
    there : get_or j.stops place s ≡ s
    there = same_Some _ _ (sym (slice_get-get_or j.stops place s (slice_get_within j.stops place s e)) ∙ e)

-- ---- no stop at the time is left

later_stop : (j : JobView) (i k : ℕ) (s r : listed.Stop) → IsRising moment_cmp stop_moment j.stops → i ≤ k →
    slice_get j.stops i ≡ Some s → slice_get j.stops k ≡ Some r → s.at.time ≤ r.at.time
later_stop j = later_in_time stop_moment j.stops

abbrev NoneLeft : JobView → ℕ → ℕ → Type 0
NoneLeft j t place = (k : ℕ) (s : listed.Stop) → place ≤ k → slice_get j.stops k ≡ Some s → t < s.at.time

at_end : (j : JobView) (t place : ℕ) → length j.stops ≤ place → NoneLeft j t place
at_end j t place past k s l e = absurd (let lt = slice_get_within j.stops k s e in omega (arith, lt, past, l))

before_later : (j : JobView) (vs : Values) (t place : ℕ) (s : listed.Stop) → IsRising moment_cmp stop_moment j.stops →
    AreTried j vs t place → slice_get j.stops place ≡ Some s → s.at.time ≢ t → NoneLeft j t place
before_later j vs t place s rising tried e other k r l h = grind (arith, common_steps, later_stop)

pub record AreAllTried (j : JobView) (vs : Values) (t place : ℕ) : Type 0 where
  pub free : HasNoFaultOfKind j vs t Stop
  pub next : IsNextStop j (t + 1) place

all_tried : (j : JobView) (vs : Values) (t place : ℕ) → AreTried j vs t place → NoneLeft j t place →
    AreAllTried j vs t place
all_tried j vs t place tried left = record {
  free = λ x y a la found. let f : IsStopFault j (valuation vs a) t x y = found.1 in
      tried.free f.is_listed.0 f.stop a (soon x y a f) (stop_at j (valuation vs a) t x y f) f.time la
      (found.0, λ is. f.differs (sym (λ i. local_run j (valuation vs a) (f.time i) (f.column i) (f.row i)) ∙ is));
  next = grind (arith, common_steps);
}
  where
    soon : (x y : ℤ) (a : ℕ) (f : IsStopFault j (valuation vs a) t x y) → f.is_listed.0 < place
    soon x y a f = elim (cases_lt f.is_listed.0 place) [
      | inl lt ↦ lt
      | inr ge ↦
          let lt = left f.is_listed.0 f.stop ge (stop_at j (valuation vs a) t x y f) in
          let time = f.time in
          absurd (omega (arith, lt, time))
    ]

pub past_all : (j : JobView) (vs : Values) (t place : ℕ) → AreTried j vs t place → length j.stops ≤ place →
    AreAllTried j vs t place
past_all j vs t place tried past = all_tried j vs t place tried (at_end j t place past)

pub past_these : (j : JobView) (vs : Values) (t place : ℕ) (s : listed.Stop) → IsRising moment_cmp stop_moment j.stops →
    AreTried j vs t place → slice_get j.stops place ≡ Some s → s.at.time ≢ t → AreAllTried j vs t place
past_these j vs t place s rising tried e other =
    all_tried j vs t place tried (before_later j vs t place s rising tried e other)

-- ---- times without stops
-- where a place is that of the next stop at two times there is none between them
pub none_between : (j : JobView) (vs : Values) (t n place k : ℕ) → IsNextStop j t place → IsNextStop j n place →
    t ≤ k → k < n → HasNoFaultOfKind j vs k Stop
none_between j vs t n place k low high from to x y a la found =
    let f : IsStopFault j (valuation vs a) k x y = found.1 in
    let at : slice_get j.stops f.is_listed.0 ≡ Some f.stop = stop_at j (valuation vs a) k x y f in
    let time : f.stop.at.time ≡ k = f.time in
    grind (arith, common_steps, cases_lt)

-- a place is that of the next stop also at later times, up to that of the stop
pub next_later : (j : JobView) (t n place : ℕ) (s : listed.Stop) → IsRising moment_cmp stop_moment j.stops →
    IsNextStop j t place → slice_get j.stops place ≡ Some s → t ≤ n → n ≤ s.at.time → IsNextStop j n place
next_later j t n place s rising next e from to = grind (arith, common_steps, later_stop)

pub next_at_end : (j : JobView) (t n place : ℕ) → IsNextStop j t place → length j.stops ≤ place → t ≤ n →
    IsNextStop j n place
next_at_end j t n place next past from = grind (arith, common_steps, slice_get_within)
