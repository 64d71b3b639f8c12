-- Jobs for which a finding is held, and their least faults
use Rattle.core_book.proofs.Imports.{AreLeastFaultsOfJob, BookView, Bool, Finding, IsFindingHeld, JobView, LeastFaults}
use Rattle.core_book.proofs.Imports.{List, Some, [], ap, arith, common_steps, eqb_tells, false, get_or, held_finding}
use Rattle.core_book.proofs.Imports.{inl, inr, job_of, jobs_decide, length, length-append, map, same_Some, same_job}
use Rattle.core_book.proofs.Imports.{slice_get, slice_get-map, slice_get_read, subst, sym, true, ℕ, ◌++◌, ◌+◌, ◌<◌, ◌∙◌}
use Rattle.core_book.proofs.Imports.{◌∷◌, ◌≡◌, ◌≢◌}
use Rattle.module_box.proofs.Rising.{pushed}
use Rattle.core_book.specs.Verdicts.{AreFindingsHeldBelow, IsFirstMissingFinding}

-- ---- the finding of a number, beside a job

pub whole-job : (wanted theirs : JobView) (f : Finding) (r : Bool) → r ≡ same_job theirs wanted → theirs ≡ job_of f →
    r ≡ true → job_of f ≡ wanted
whole-job wanted theirs f r e t is = sym t ∙ (jobs_decide theirs wanted).0 (sym e ∙ is)

pub other-job : (b : BookView) (n : ℕ) (f : Finding) (wanted theirs : JobView) (r : Bool) → Some f ≡ held_finding b n →
    r ≡ same_job theirs wanted → theirs ≡ job_of f → r ≡ false → ¬ IsFindingHeld b n wanted
other-job b n f wanted theirs r held e t is = grind (arith, common_steps, same_Some, jobs_decide)

-- the job of a number, where the jobs are seen through a function
pub job-at : {Y : Type 0} (view : Y → JobView) (ys : List Y) (n : ℕ) (y : Y) → n < length ys → y ≡ get_or ys n y →
    slice_get (map view ys) n ≡ Some (view y)
job-at view ys n y below at = grind (arith, common_steps, slice_get-map, slice_get_read)

-- ---- the jobs below a number

-- a finding is held for each of the jobs below the number, and these are their least faults
pub record AreFaultsBelow (b : BookView) (jobs : List JobView) (count : ℕ) (fs : List LeastFaults) : Type 0 where
  pub held : AreFindingsHeldBelow b jobs count
  pub count_is : length fs ≡ count
  pub each : (n : ℕ) (j : JobView) (f : LeastFaults) → slice_get jobs n ≡ Some j → slice_get fs n ≡ Some f →
      AreLeastFaultsOfJob j f

-- a job more
held_more : (b : BookView) (jobs : List JobView) (n : ℕ) (j : JobView) → slice_get jobs n ≡ Some j →
    AreFindingsHeldBelow b jobs n → IsFindingHeld b n j → AreFindingsHeldBelow b jobs (n + 1)
held_more b jobs n j at below now k i less there =
    elim (eqb_tells k n) [
      | inl p ↦
          let same : j ≡ i = same_Some _ _ (sym at ∙ ap (slice_get jobs) (sym p.1) ∙ there) in
          subst (λ (x : JobView). IsFindingHeld b k x) same (subst (λ (m : ℕ). IsFindingHeld b m j) (sym p.1) now)
      | inr q ↦ below k i (let other : k ≢ n = q.1 in omega arith) there
    ]

each_more : (jobs : List JobView) (fs : List LeastFaults) (n : ℕ) (j : JobView) (g : LeastFaults) → length fs ≡ n →
    slice_get jobs n ≡ Some j → AreLeastFaultsOfJob j g →
    ((k : ℕ) (i : JobView) (f : LeastFaults) → slice_get jobs k ≡ Some i → slice_get fs k ≡ Some f →
    AreLeastFaultsOfJob i f) → (k : ℕ) (i : JobView) (f : LeastFaults) → slice_get jobs k ≡ Some i →
    slice_get (fs ++ g ∷ []) k ≡ Some f → AreLeastFaultsOfJob i f
each_more jobs fs n j g count at least each k i f there got =
    elim (pushed fs g k f got) [
      | inl old ↦ each k i f there old
      | inr new ↦
          let same : j ≡ i = same_Some _ _ (sym at ∙ ap (slice_get jobs) (sym (new.0 ∙ count)) ∙ there) in
          subst (AreLeastFaultsOfJob i) new.1 (subst (λ (x : JobView). AreLeastFaultsOfJob x g) same least)
    ]

pub one-more : (b : BookView) (jobs : List JobView) (n : ℕ) (fs : List LeastFaults) (j : JobView) (f : Finding)
    (r : LeastFaults) → AreFaultsBelow b jobs n fs → slice_get jobs n ≡ Some j → held_finding b n ≡ Some f →
    job_of f ≡ j → AreLeastFaultsOfJob (job_of f) r → AreFaultsBelow b jobs (n + 1) (fs ++ r ∷ [])
one-more b jobs n fs j f r below at held whole told = record {
  held = held_more b jobs n j at below.held (record { finding = f; held = held; whole = whole });
  count_is = length-append fs (r ∷ []) ∙ ap (λ (m : ℕ). m + 1) below.count_is;
  each = each_more jobs fs n j r below.count_is at
      (subst (λ (x : JobView). AreLeastFaultsOfJob x r) whole told) below.each;
}

pub first-missing : (b : BookView) (jobs : List JobView) (n : ℕ) (fs : List LeastFaults) (j : JobView) →
    AreFaultsBelow b jobs n fs → slice_get jobs n ≡ Some j → ¬ IsFindingHeld b n j → IsFirstMissingFinding b jobs n
first-missing b jobs n fs j below at missing = record { job = j; numbered = at; missing = missing; before = below.held }
