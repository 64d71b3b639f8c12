-- Runs under all assignments that leap over times
use Rattle.local_run.proofs.Imports.{Bool, HasSameSignalsAtOddTimes, IsJob, IsNextStop, IsOddOfTimePair, IsRunReady}
use Rattle.local_run.proofs.Imports.{IsRunUnchangedUntil, JobView, Planes, ShowsRunAt, Values, and_parts, arith}
use Rattle.local_run.proofs.Imports.{assignments, by_eq_or_not, by_lt_or_le, cases_Bool, common_steps, false, in_box}
use Rattle.local_run.proofs.Imports.{in_span, inl, inr, local_run, subst, sym, valuation, ℕ, ℤ, ◌%◌, ◌+◌, ◌-◌, ◌<◌}
use Rattle.local_run.proofs.Imports.{◌||◌, ◌∙◌, ◌≡◌, ◌≤◌, ◌⊎◌}
use Rattle.lemmas.proofs.Common.{or_parts}
use Rattle.local_run.specs.Leaps.{IsLeap}
use Rattle.local_run.specs.Scans.{IsTimeWithoutFault}
use Rattle.local_run.proofs.Firsts.{span_at}
use Rattle.local_run.proofs.LeapLemmas.{quiet_runs, no_new_faults}
use Rattle.local_run.proofs.Leasts.{AreFreeBefore, free_more}
use Rattle.local_run.proofs.LocalRuns.{stays}
use Rattle.local_run.proofs.StopScans.{none_between}

-- the runs at two times are the same, under each assignment
abbrev pub SameRuns : JobView → Values → ℕ → ℕ → Type 0
SameRuns j vs k m = (a : ℕ) → a < assignments j → (x y : ℤ) →
    local_run j (valuation vs a) k x y ≡ local_run j (valuation vs a) m x y

-- planes that show both show it
same_runs : (j : JobView) (vs : Values) (k m : ℕ) (p : Planes) → IsJob j → ShowsRunAt j vs k p → ShowsRunAt j vs m p →
    SameRuns j vs k m
unfolding in_box
same_runs j vs k m p is sk sm a la x y = elim (cases_Bool (in_box j.area x y)) [
  | inr out ↦ stays j (valuation vs a) k is x y out ∙ sym (stays j (valuation vs a) m is x y out)
  | inl inside ↦
      let h = and_parts (in_span j.area.x j.area.w x) (in_span j.area.y j.area.h y) inside in
      let px = span_at j.area.x j.area.w x h.0 in
      let py = span_at j.area.y j.area.h y h.1 in
      subst (λ (z : ℤ). local_run j (valuation vs a) k z y ≡ local_run j (valuation vs a) m z y) (sym px.is)
      (grind (arith, common_steps))
]

shows_same : (j : JobView) (vs : Values) (k m : ℕ) (p : Planes) → ShowsRunAt j vs m p → SameRuns j vs k m →
    ShowsRunAt j vs k p
shows_same j vs k m p shows same = grind (arith, common_steps)

-- a run that did not change at the odd time o and at the even time after it
stays_both : (j : JobView) (vs : Values) (o a : ℕ) → a < assignments j → SameRuns j vs (o + 1) o →
    SameRuns j vs (o + 2) (o + 1) → IsRunUnchangedUntil j (valuation vs a) o (o + 2)
stays_both j vs o a la first second k x y from to = grind (arith, common_steps, by_eq_or_not)

is_odd_of : (o : ℕ) → o % 2 ≡ 1 → IsOddOfTimePair o o
is_odd_of o odd = grind (arith, common_steps)

-- ---- where a run has come to
-- No time before has a fault, the planes show time t, and the place is that of the next stop. Unless something changed,
-- the time before was the same
pub record InRun (j : JobView) (vs : Values) (t place : ℕ) (p : Planes) (changed : Bool) : Type 0 where
  pub shows : ShowsRunAt j vs t p
  pub early : t ≤ j.steps
  pub next : IsNextStop j t place
  pub free : AreFreeBefore j vs t
  pub still : changed ≡ false → (1 ≤ t) × SameRuns j vs t (t - 1)

one_next : (j : JobView) (vs : Values) (t old place : ℕ) (p q : Planes) (before changed : Bool) → IsRunReady j vs →
    InRun j vs t old p before → t < j.steps → IsTimeWithoutFault j vs t place →
    ShowsRunAt j vs (t + 1) q → (changed ≡ false → ShowsRunAt j vs t q) → InRun j vs (t + 1) place q changed
one_next j vs t old place p q before changed ready run l passed next same =
    grind (arith, common_steps, free_more, same_as_before)
  where
    same_as_before : changed ≡ false → SameRuns j vs (t + 1) (t + 1 - 1)
    same_as_before e = let back : t ≡ t + 1 - 1 = omega arith in
        subst (SameRuns j vs (t + 1)) back (same_runs j vs (t + 1) t q ready.job next (same e))

-- a leap from the odd time o, where the two steps from it on changed nothing
leap_next : (j : JobView) (vs : Values) (o n place : ℕ) (q : Planes) (changed : Bool) → o % 2 ≡ 1 →
    SameRuns j vs (o + 1) o → SameRuns j vs (o + 2) (o + 1) → AreFreeBefore j vs (o + 2) → ShowsRunAt j vs (o + 2) q →
    IsNextStop j (o + 2) place → IsNextStop j n place → HasSameSignalsAtOddTimes j.edges o n →
    HasSameSignalsAtOddTimes j.halos o n → o + 1 < n → n ≤ j.steps → InRun j vs n place q changed
leap_next j vs o n place q changed odd first second free next low high edges halos l last = record {
  shows = shows_same j vs n (o + 2) q next
      (λ a la x y. all a la n x y (omega arith) (omega arith)
      ∙ sym (both a la (o + 2) x y (omega arith) (omega arith)));
  early = last;
  next = high;
  free = record {
    edges = λ k lk ok. by_lt_or_le k o
        (λ h. free.edges k (omega arith) ok)
        (λ h x y a la f. free.edges o (omega arith) odd x y a la
        (f.0, no_new_faults j (valuation vs a) o o n k x y (is_odd_of o odd) (both a la) halos edges h lk f.1));
    stops = λ k lk. by_lt_or_le k (o + 2) (λ h. free.stops k h)
        (λ h. none_between j vs (o + 2) n place k low high h lk);
  };
  still = λ e. (
    omega arith,
    λ a la x y. all a la n x y (omega arith) (omega arith) ∙ sym (all a la (n - 1) x y (omega arith) (omega arith)),
  );
}
  where
    both : (a : ℕ) → a < assignments j → IsRunUnchangedUntil j (valuation vs a) o (o + 2)
    both a la = stays_both j vs o a la first second

    all : (a : ℕ) → a < assignments j → IsRunUnchangedUntil j (valuation vs a) o n
    all a la = quiet_runs j (valuation vs a) o o n (is_odd_of o odd) (both a la) halos

pub next_run : (j : JobView) (vs : Values) (t n old place : ℕ) (p q : Planes) (before changed : Bool) →
    IsRunReady j vs → InRun j vs t old p before → t < j.steps → IsTimeWithoutFault j vs t place →
    ShowsRunAt j vs (t + 1) q → (changed ≡ false → ShowsRunAt j vs t q) → (t < n) × (n ≤ j.steps) →
    (n ≡ t + 1) ⊎ IsLeap j t (before || changed) n → IsNextStop j n place → InRun j vs n place q changed
next_run j vs t n old place p q before changed ready run l passed next same range way high = elim way [
  | inl e ↦ subst (λ (m : ℕ). InRun j vs m place q changed) (sym e)
      (one_next j vs t old place p q before changed ready run l passed next same)
  | inr leap ↦
      let none = or_parts before changed leap.unchanged in
      let even = leap.even in
      let later = leap.later in
      let after = one_next j vs t old place p q before changed ready run l passed next same in
      let b : t + 1 ≡ t - 1 + 2 = omega arith in
      let c : t ≡ t - 1 + 1 = omega arith in
      leap_next j vs (t - 1) n place q changed (omega arith)
      (subst (λ (m : ℕ). SameRuns j vs m (t - 1)) c (run.still none.0).1)
      (subst (λ (m : ℕ). SameRuns j vs m (t - 1 + 1)) b
      (subst (SameRuns j vs (t + 1)) (back ∙ c) (after.still none.1).1))
      (subst (AreFreeBefore j vs) b after.free)
      (subst (λ (m : ℕ). ShowsRunAt j vs m q) b next)
      (subst (λ (m : ℕ). IsNextStop j m place) b passed.next) high
      leap.edges leap.halos (omega (arith, range.0)) range.1
]
  where
    back : t + 1 - 1 ≡ t
    back = omega arith
