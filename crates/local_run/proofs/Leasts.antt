-- From the first fault of a time and a kind to the least fault of the job
use Rattle.local_run.proofs.Imports.{All, AreValueRowsAt, Edge, End, Equal, Fault, Greater, HasNoFaultOfKind, IsFault}
use Rattle.local_run.proofs.Imports.{IsDefinedAndHasFault, IsFirstFaultOfKind, IsKeepFault, IsLeastBelow, IsLeastFault}
use Rattle.local_run.proofs.Imports.{IsRunReady, IsTrue, JobView, KeepFault, Kind, None, Option, Ordering, Some, Stop}
use Rattle.local_run.proofs.Imports.{Values, arith, assignments, bit, by_lt_or_le, cases_Bool, cases_lt, cell_cmp}
use Rattle.local_run.proofs.Imports.{common_steps, false, fault_cmp, inl, inr, int_equal, is_among, is_defined_under}
use Rattle.local_run.proofs.Imports.{keep_fault_cmp, kind_number, length, nat_cmp, nat_equal, ordering_then, props}
use Rattle.local_run.proofs.Imports.{slice_get_within, subst, sym, true, true≢false, valuation, value_of, ℕ, ℤ}
use Rattle.local_run.proofs.Imports.{∥∥₁_elim, ◌%◌, ◌+◌, ◌<ℤ◌, ◌<◌, ◌∙◌, ◌≡◌, ◌≢◌, ◌≤◌, ◌⊎◌}
use Rattle.lemmas.proofs.Common.{◌↔◌, MatchOption, int_cmp}
use Rattle.circuit.proofs.Undefined.{undefined_has_none}
use Rattle.circuit.specs.Meaning.{IsFirstGateWithoutRow}
use Rattle.local_run.specs.Faults.{IsLeastKeepFault}
use Rattle.local_run.specs.Laws.{NoFaultIfGateUndefined}
use Rattle.local_run.specs.Scans.{HasNoEdgeFaultAtOddTime, IsFirstFaultAt}
use Rattle.local_run.proofs.Decided.{decided}
use Rattle.module_job.specs.declared.job.Stop as listed

nat_greater : (a b : ℕ) → nat_cmp a b ≡ Greater → b < a
nat_greater a b h = grind arith

int_greater : (a b : ℤ) → int_cmp a b ≡ Greater → b <ℤ a
int_greater a b h = grind arith

-- a first order that is `Greater`, or the second where the first is `Equal`
then_greater : (o p : Ordering) → ordering_then o p ≡ Greater → (o ≡ Greater) ⊎ ((o ≡ Equal) × (p ≡ Greater))
then_greater o p h1 = grind (arith, common_steps)

then_equal : (o p : Ordering) → ordering_then o p ≡ Equal → (o ≡ Equal) × (p ≡ Equal)
then_equal o p h1 = grind (arith, common_steps)

-- no fault comes before f
pub not_greater : (f g : Fault) → ¬ (g.time < f.time) →
    (f.time ≡ g.time → ¬ (kind_number g.kind < kind_number f.kind)) →
    (f.time ≡ g.time → kind_number f.kind ≡ kind_number g.kind → ¬ (g.cell.y <ℤ f.cell.y)) →
    (f.time ≡ g.time → kind_number f.kind ≡ kind_number g.kind → f.cell.y ≡ g.cell.y → ¬ (g.cell.x <ℤ f.cell.x)) →
    (f.time ≡ g.time → kind_number f.kind ≡ kind_number g.kind → f.cell.y ≡ g.cell.y → f.cell.x ≡ g.cell.x →
    ¬ (g.assignment < f.assignment)) → fault_cmp f g ≢ Greater
unfolding fault_cmp cell_cmp
not_greater f g t k y x a h =
    grind (arith, common_steps, then_greater, nat_greater, nat_equal, int_greater, int_equal, then_equal)

kind_same : (k k' : Kind) → kind_number k ≡ kind_number k' → k ≡ k'
kind_same k k' h1 = grind (arith, common_steps)

-- where a used gate has no row there is no fault
pub undefined_no_fault : NoFaultIfGateUndefined
undefined_no_fault j f k ordered u h =
    ∥∥₁_elim h.shown (λ x y. absurd x)
    (λ s. undefined_has_none j.locals.netlist (bit f.assignment) s.values k ordered u s.local)

rows_at : (j : JobView) (vs : Values) (a : ℕ) → IsRunReady j vs → a < assignments j →
    AreValueRowsAt j.locals.netlist vs.words a vs.rows.values.items vs.rows.undefined.items vs.rows.defined.items
rows_at j vs a ready small = grind (arith, common_steps)

-- what a fault is under the values that are given
pub under : (j : JobView) (vs : Values) (f : Fault) → IsRunReady j vs → IsFault j f →
    IsDefinedAndHasFault j vs f.assignment f.time f.kind f.cell.x f.cell.y
under j vs f ready h =
    let rows = rows_at j vs f.assignment ready h.in_range in
    elim (cases_Bool (is_defined_under vs f.assignment)) [
      | inl e ↦ (e, (decided j f (valuation vs f.assignment) ready.job ready.ordered h.in_range (rows.local e)).0 h)
      | inr e ↦ let gap = rows.none e in absurd (undefined_no_fault j f gap.0 ready.ordered gap.1 h)
    ]

-- and from them
shown : (j : JobView) (vs : Values) (f : Fault) → IsRunReady j vs → f.assignment < assignments j →
    IsDefinedAndHasFault j vs f.assignment f.time f.kind f.cell.x f.cell.y → IsFault j f
shown j vs f ready small h = (decided j f (valuation vs f.assignment) ready.job ready.ordered small
    ((rows_at j vs f.assignment ready small).local h.0)).1 h.1

first_least : (j : JobView) (vs : Values) (f : Fault) → IsRunReady j vs → IsFirstFaultOfKind j vs f.time f.kind f →
    ((g : Fault) → IsFault j g → ¬ (g.time < f.time)) →
    ((g : Fault) → IsFault j g → f.time ≡ g.time → ¬ (kind_number g.kind < kind_number f.kind)) →
    IsLeastFault j (Some f)
first_least j vs f ready first earlier lower = (
  shown j vs f ready first.small first.fault,
  (λ g h. not_greater f g (earlier g h) (lower g h)
      (λ et ek l. first.row g.cell.x g.cell.y g.assignment h.in_range l (moved g h et ek))
      (λ et ek ey l. first.column g.cell.x g.assignment h.in_range l
      (subst (λ (z : ℤ). IsDefinedAndHasFault j vs g.assignment f.time f.kind g.cell.x z) (sym ey) (moved g h et ek)))
      (λ et ek ey ex l. first.assignment g.assignment l
      (subst (λ (z : ℤ). IsDefinedAndHasFault j vs g.assignment f.time f.kind z f.cell.y) (sym ex)
      (subst (λ (z : ℤ). IsDefinedAndHasFault j vs g.assignment f.time f.kind g.cell.x z) (sym ey)
      (moved g h et ek))))),
)
  where
    moved : (g : Fault) → IsFault j g → f.time ≡ g.time → kind_number f.kind ≡ kind_number g.kind →
        IsDefinedAndHasFault j vs g.assignment f.time f.kind g.cell.x g.cell.y
    moved g h et ek =
        subst (λ (t : ℕ). IsDefinedAndHasFault j vs g.assignment t f.kind g.cell.x g.cell.y) (sym et)
        (subst (λ (k : Kind). IsDefinedAndHasFault j vs g.assignment g.time k g.cell.x g.cell.y)
        (sym (kind_same _ _ ek))
        (under j vs g ready h))

-- no time before t has a fault of an edge or of a stop
pub record AreFreeBefore (j : JobView) (vs : Values) (t : ℕ) : Type 0 where
  pub edges : (s : ℕ) → s < t → s % 2 ≡ 1 → HasNoFaultOfKind j vs s Edge
  pub stops : (s : ℕ) → s < t → HasNoFaultOfKind j vs s Stop

pub free_more : (j : JobView) (vs : Values) (t : ℕ) → AreFreeBefore j vs t → HasNoEdgeFaultAtOddTime j vs t →
    HasNoFaultOfKind j vs t Stop → AreFreeBefore j vs (t + 1)
free_more j vs t free edges stops = record {
  edges = grind (arith, common_steps, by_lt_or_le);
  stops = λ s l. by_lt_or_le s t (λ h. free.stops s h)
      (λ h. let e : t ≡ s = omega (arith, l, h) in subst (λ (n : ℕ). HasNoFaultOfKind j vs n Stop) e stops);
}

-- then there is no fault before t, where the last time is not before
before_free : (j : JobView) (vs : Values) (t : ℕ) → t ≤ j.steps → AreFreeBefore j vs t →
    (s : ℕ) (k : Kind) (x y : ℤ) (a : ℕ) → a < assignments j → IsDefinedAndHasFault j vs a s k x y → ¬ (s < t)
before_free j vs t h1 h2 s k x y a h3 h4 = grind (arith, common_steps)

none_before : (j : JobView) (vs : Values) (t : ℕ) → IsRunReady j vs → t ≤ j.steps → AreFreeBefore j vs t → (f : Fault) →
    IsFault j f → ¬ (f.time < t)
none_before j vs t ready early free f h l =
    before_free j vs t early free f.time f.kind f.cell.x f.cell.y f.assignment h.in_range (under j vs f ready h) l

is_first : (j : JobView) (vs : Values) (t : ℕ) (k : Kind) (f : Fault) → IsFirstFaultOfKind j vs t k f →
    IsFirstFaultOfKind j vs f.time f.kind f
is_first j vs t k f first = grind (arith, common_steps)

-- from the first fault of a kind at a time, where the kinds before it have no fault at the time
least_at : (j : JobView) (vs : Values) (t : ℕ) (k : Kind) (f : Fault) → IsRunReady j vs → t ≤ j.steps →
    AreFreeBefore j vs t → IsFirstFaultOfKind j vs t k f →
    ((l : Kind) (x y : ℤ) (a : ℕ) → a < assignments j → IsDefinedAndHasFault j vs a t l x y →
    ¬ (kind_number l < kind_number k)) → IsLeastFault j (Some f)
least_at j vs t k f ready early free first lower = first_least j vs f ready (is_first j vs t k f first)
    (λ g h l. none_before j vs t ready early free g h (subst (λ (n : ℕ). g.time < n) first.at_time l))
    (λ g h e l. lower g.kind g.cell.x g.cell.y g.assignment h.in_range
    (subst (λ (n : ℕ). IsDefinedAndHasFault j vs g.assignment n g.kind g.cell.x g.cell.y) (sym e ∙ first.at_time)
    (under j vs g ready h))
    (subst (λ (q : Kind). kind_number g.kind < kind_number q) first.same_kind l))

none_below_edge : (j : JobView) (vs : Values) (t : ℕ) (l : Kind) (x y : ℤ) (a : ℕ) → a < assignments j →
    IsDefinedAndHasFault j vs a t l x y → ¬ (kind_number l < 0)
none_below_edge j vs t l x y a small d h = omega (arith, h)

none_below_stop : (j : JobView) (vs : Values) (t : ℕ) → HasNoEdgeFaultAtOddTime j vs t → (l : Kind) (x y : ℤ) (a : ℕ) →
    a < assignments j → IsDefinedAndHasFault j vs a t l x y → ¬ (kind_number l < 1)
none_below_stop j vs t edges Edge x y a small d h = edges d.1.odd x y a small d
none_below_stop j vs t edges _ x y a small d h = omega (arith, h)

-- at the last time no edge is looked at
no_last_edge : (j : JobView) (vs : Values) → HasNoEdgeFaultAtOddTime j vs j.steps
no_last_edge j vs odd x y a small d = let e = d.1.early in omega (arith, e)

none_below_end : (j : JobView) (vs : Values) → HasNoFaultOfKind j vs j.steps Stop → (l : Kind) (x y : ℤ) (a : ℕ) →
    a < assignments j → IsDefinedAndHasFault j vs a j.steps l x y → ¬ (kind_number l < 2)
none_below_end j vs stops Edge x y a small d h = no_last_edge j vs d.1.odd x y a small d
none_below_end j vs stops Stop x y a small d h = stops x y a small d
none_below_end j vs stops End x y a small d h = omega (arith, h)

-- the first fault at a time before the last
pub early_least : (j : JobView) (vs : Values) (t : ℕ) (f : Fault) → IsRunReady j vs → t < j.steps →
    AreFreeBefore j vs t → IsFirstFaultAt j vs t f → IsLeastFault j (Some f)
early_least j vs t f ready early free (inl edge) =
    least_at j vs t Edge f ready (omega (arith, early)) free edge.1 (none_below_edge j vs t)
early_least j vs t f ready early free (inr stop) =
    least_at j vs t Stop f ready (omega (arith, early)) free stop.1 (none_below_stop j vs t stop.0)

-- the first fault of a stop at the last time
pub last_stop_least : (j : JobView) (vs : Values) (f : Fault) → IsRunReady j vs → AreFreeBefore j vs j.steps →
    IsFirstFaultOfKind j vs j.steps Stop f → IsLeastFault j (Some f)
last_stop_least j vs f ready free first =
    least_at j vs j.steps Stop f ready (omega arith) free first (none_below_stop j vs j.steps (no_last_edge j vs))

-- no fault at all
none_left : (j : JobView) (vs : Values) → AreFreeBefore j vs j.steps → HasNoFaultOfKind j vs j.steps Stop →
    HasNoFaultOfKind j vs j.steps End → All (λ s. s.at.time ≤ j.steps) j.stops →
    (t : ℕ) (k : Kind) (x y : ℤ) (a : ℕ) → a < assignments j → ¬ IsDefinedAndHasFault j vs a t k x y
none_left j vs free stops ends timed t Edge x y a small d = free.edges t d.1.early d.1.odd x y a small d
none_left j vs free stops ends timed t Stop x y a small d =
    by_lt_or_le t j.steps (λ h. free.stops t h x y a small d)
    (λ h.
    let here : d.1.stop.at.time ≤ j.steps =
    subst (λ (s : listed.Stop). s.at.time ≤ j.steps) d.1.is_listed.2 (timed d.1.is_listed.0 d.1.stop d.1.is_listed.1) in
    let time = d.1.time in
    let e : t ≡ j.steps = omega (arith, here, time, h) in
    stops x y a small (subst (λ (n : ℕ). IsDefinedAndHasFault j vs a n Stop x y) e d))
none_left j vs free stops ends timed t End x y a small d = grind (arith, common_steps)

-- the first fault of a demand, or none
pub end_least_fault : (j : JobView) (vs : Values) (o : Option Fault) → IsRunReady j vs → AreFreeBefore j vs j.steps →
    HasNoFaultOfKind j vs j.steps Stop →
    MatchOption o (HasNoFaultOfKind j vs j.steps End) (λ f. IsFirstFaultOfKind j vs j.steps End f) → IsLeastFault j o
end_least_fault j vs (Some f) ready free stops first =
    least_at j vs j.steps End f ready (omega arith) free first (none_below_end j vs stops)
end_least_fault j vs None ready free stops ends = λ g h.
    none_left j vs free stops ends
    (λ k s l. (ready.job.stops k s l).time) g.time g.kind g.cell.x g.cell.y g.assignment h.in_range
    (under j vs g ready h)

-- where each assignment lacks the row of a used gate, there is no fault
pub none_undefined : (j : JobView) (vs : Values) → IsRunReady j vs →
    ((a : ℕ) → a < vs.count → is_defined_under vs a ≡ false) → IsLeastFault j None
none_undefined j vs ready none f h =
    true≢false (sym (under j vs f ready h).0
    ∙ none f.assignment (let count = ready.count in let small = h.in_range in omega (arith, count, small)))

-- ---- keep faults
-- a gate's row tells its keep faults
keep_tells : (j : JobView) (vs : Values) (a gate : ℕ) → IsRunReady j vs → a < assignments j →
    gate < length j.locals.netlist.gates → IsTrue (is_among j.kept gate) →
    value_of vs.words vs.rows.undefined.items a gate ≡ true ↔ IsKeepFault j (record { gate = gate; assignment = a })
keep_tells j vs a gate ready small below kept = (
  (λ e.
      record {
        in_range = small;
        is_kept = kept;
        shown = ∣ ((rows_at j vs a ready small).undefined gate below).0 e ∣₁;
      }),
  (λ h. ∥∥₁_elim h.shown (Prim.hlevel props) (λ u. ((rows_at j vs a ready small).undefined gate below).1 u)),
)

keep_below : (j : JobView) (f : KeepFault) → IsKeepFault j f → f.gate < length j.locals.netlist.gates
keep_below j f h = ∥∥₁_elim h.shown (Prim.hlevel props)
    (λ (u : IsFirstGateWithoutRow j.locals.netlist (bit f.assignment) f.gate).
    slice_get_within j.locals.netlist.gates f.gate u.gate u.numbered)

-- no gate before this one has a keep fault
abbrev pub IsKeepFree : JobView → ℕ → Type 0
IsKeepFree j gates = (f : KeepFault) → f.gate < gates → ¬ IsKeepFault j f

abbrev pub IsLeastRow : JobView → Values → ℕ → Option ℕ → Type 0
IsLeastRow j vs gate r = IsLeastBelow vs.count (λ a. value_of vs.words vs.rows.undefined.items a gate ≡ true) r

pub keep_found : (j : JobView) (vs : Values) (gate a : ℕ) → IsRunReady j vs → gate < length j.locals.netlist.gates →
    IsTrue (is_among j.kept gate) → IsKeepFree j gate → IsLeastRow j vs gate (Some a) →
    IsLeastKeepFault j (Some (record { gate = gate; assignment = a }))
unfolding keep_fault_cmp
keep_found j vs gate a ready below kept free least =
    let small : a < assignments j = (let count = ready.count in let l = least.0 in omega (arith, count, l)) in (
      (keep_tells j vs a gate ready small below kept).0 least.1,
      (λ g h greater. elim (then_greater (nat_cmp gate g.gate) (nat_cmp a g.assignment) greater) [
        | inl e ↦ free g (nat_greater gate g.gate e) h
        | inr p ↦
            let same : gate ≡ g.gate = nat_equal gate g.gate p.0 in
            let moved : IsKeepFault j (record { gate = gate; assignment = g.assignment }) =
            subst (λ n. IsKeepFault j (record { gate = n; assignment = g.assignment })) (sym same) h in
            least.2 g.assignment (nat_greater a g.assignment p.1)
            ((keep_tells j vs g.assignment gate ready h.in_range below kept).1 moved)
      ]),
    )

pub keep_free_more : (j : JobView) (vs : Values) (gate : ℕ) → IsRunReady j vs → gate < length j.locals.netlist.gates →
    IsKeepFree j gate → (IsTrue (is_among j.kept gate) → IsLeastRow j vs gate None) → IsKeepFree j (gate + 1)
keep_free_more j vs gate ready below free none f h is = elim (cases_lt f.gate gate) [
  | inl less ↦ free f less is
  | inr large ↦
      let same : f.gate ≡ gate = omega arith in
      let moved : IsKeepFault j (record { gate = gate; assignment = f.assignment }) =
      subst (λ n. IsKeepFault j (record { gate = n; assignment = f.assignment })) same is in
      let kept : IsTrue (is_among j.kept gate) = moved.is_kept in
      none kept f.assignment (let count = ready.count in let small = is.in_range in omega (arith, count, small))
      ((keep_tells j vs f.assignment gate ready is.in_range below kept).1 moved)
]

pub keep_none : (j : JobView) (gates : ℕ) → length j.locals.netlist.gates ≤ gates → IsKeepFree j gates →
    IsLeastKeepFault j None
keep_none j gates all free f h = free f (let below = keep_below j f h in omega (arith, below, all)) h
