-- No gate of what is accepted is undefined
use Rattle.soundness.proofs.Imports.{All, All-head, All-tail, BelongTogether, IsJobOf, JobView, List, ModuleLines, Some}
use Rattle.soundness.proofs.Imports.{[], ap, arith, cases_Bool, choices_are_assignments, circuit_gate, circuit_of}
use Rattle.soundness.proofs.Imports.{common_steps, eq-eqb, eqb, eqb-true, has_valuation, inl, inr, is_among, is_kept}
use Rattle.soundness.proofs.Imports.{keeps, length, map, netlist_of, only_inverse, refl, slice_get, slice_get_within}
use Rattle.soundness.proofs.Imports.{some_at, suc, sym, true, true≢false, undefined_is_seen, values_by_local_number, ℕ}
use Rattle.soundness.proofs.Imports.{◌<◌, ◌∙◌, ◌∷◌, ◌≡◌}
use Rattle.soundness.specs.HeadlineLaws.{AcceptedHasNoUndefinedGate, AcceptedHasValuation}

-- a module that keeps the gate
record Keeper (ms : List ModuleLines) (n : ℕ) : Type 0 where
  number : ℕ
  lines : ModuleLines
  numbered : slice_get ms number ≡ Some lines
  keeps_it : is_among (keeps lines) n ≡ true

keeper : (ms : List ModuleLines) (n : ℕ) → is_kept ms n ≡ true → Keeper ms n
keeper [] n e = absurd (true≢false (sym e))
keeper (m ∷ ms) n e = elim (cases_Bool (is_among (keeps m) n)) [
  | inl here ↦ record { number = 0; lines = m; numbered = refl; keeps_it = here }
  | inr other ↦
      let rest : Keeper ms n = keeper ms n (rw other at e) in
      record { number = suc rest.number; lines = rest.lines; numbered = rest.numbered; keeps_it = rest.keeps_it }
]

-- the place of a number among the places that are mapped to these numbers
pub record PlaceOf (f : ℕ → ℕ) (places : List ℕ) (count n : ℕ) : Type 0 where
  pub place : ℕ
  pub listed : is_among places place ≡ true
  pub below : place < count
  pub same : f place ≡ n

listed_first : (p : ℕ) (places : List ℕ) → is_among (p ∷ places) p ≡ true
listed_first p places = rw (eq-eqb p p refl) refl

pub listed_later : (p q : ℕ) (places : List ℕ) → is_among places q ≡ true → is_among (p ∷ places) q ≡ true
listed_later p q places e = grind (arith, common_steps, cases_Bool)

pub place_of : (f : ℕ → ℕ) (places : List ℕ) (count n : ℕ) → All (λ k. k < count) places →
    is_among (map f places) n ≡ true → PlaceOf f places count n
place_of f [] count n all e = absurd (true≢false (sym e))
place_of f (p ∷ places) count n all e = elim (cases_Bool (eqb (f p) n)) [
  | inl here ↦ record {
    place = p;
    listed = listed_first p places;
    below = All-head (λ k. k < count) p places all;
    same = eqb-true (f p) n here;
  }
  | inr other ↦
      let rest : PlaceOf f places count n =
      place_of f places count n (All-tail (λ k. k < count) p places all) (rw other at e) in
      grind (arith, common_steps, listed_later)
]

pub none_is_undefined : AcceptedHasNoUndefinedGate
none_is_undefined lines p ms jobs inputs k all u =
    let b : BelongTogether lines p ms jobs = all.bundle in
    let kept : is_kept ms k ≡ true =
    all.accepted.kept k u.gate u.numbered (only_inverse (netlist_of lines) inputs k b.ordered u) in
    let by : Keeper ms k = keeper ms k kept in
    let j = some_at jobs by.number (let lt = slice_get_within ms by.number by.lines by.numbered in let n =
    b.are_jobs.count in omega (arith, lt, n)) in
    let job : JobView = j.0 in
    let is_job : IsJobOf (circuit_of lines) p by.lines job = b.are_jobs.each by.number by.lines job by.numbered j.1 in
    let at : PlaceOf (circuit_gate job.locals) job.kept (length job.locals.netlist.gates) k =
    place_of (circuit_gate job.locals) job.kept (length job.locals.netlist.gates) k is_job.kept_are_used
    (ap (λ (l : List ℕ). is_among l k) is_job.kept ∙ by.keeps_it) in
    let a = choices_are_assignments job.locals.netlist.given (values_by_local_number job.locals u.values) in
    all.accepted.no_keep_fault by.number job (record { gate = at.place; assignment = a.0 }) j.1 (record {
      in_range = a.1;
      is_kept = at.listed;
      shown = ∣ undefined_is_seen (netlist_of lines) job.locals inputs k at.place a.0 is_job.locals u at.below at.same
          a.2 ∣₁;
    })

pub accepted_has_valuation : AcceptedHasValuation
accepted_has_valuation lines p ms jobs inputs all =
    has_valuation (netlist_of lines) inputs all.bundle.ordered (λ k. none_is_undefined lines p ms jobs inputs k all)
