-- The earliest line of a report is the first fault
use Rattle.soundness.proofs.Imports.{AreLeastFaultsOfJob, AreReportLines, BorderFault, Contains, Contains-append_left}
use Rattle.soundness.proofs.Imports.{Fault, Greater, IsAssignmentOf, IsBorderFault, IsFault, IsLeastBorderFault}
use Rattle.soundness.proofs.Imports.{IsLeastFault, IsVerdict, JobView, LeastFaults, List, ModuleLines, None, Option}
use Rattle.soundness.proofs.Imports.{ReportLine, Setting, Some, TimeLine, Unkept, [], ap, arith, border_fault_cmp}
use Rattle.soundness.proofs.Imports.{border_line, common_steps, delay_and_meet_lines, fault_cmp, inl, inr, keep_line}
use Rattle.soundness.proofs.Imports.{length, local_line, map, option_map, option_to_list, ordering_then, refl}
use Rattle.soundness.proofs.Imports.{report_lines_from, same_Some, setting_of, slice_get, slice_get_within, some_at}
use Rattle.soundness.proofs.Imports.{subst, suc, sym, timing_report_line, unkept, unkept_lines, zero, ℕ, ◌++◌, ◌+◌, ◌<◌}
use Rattle.soundness.proofs.Imports.{◌∙◌, ◌∷◌, ◌≡◌, ◌≢◌, ◌≤◌}
use Rattle.lemmas.proofs.Common.{Contains-append_cases, Contains-append_right, nothing_in, one_in}
use Rattle.bbm_rule.specs.CellOrder.{cell_cmp}
use Rattle.soundness.specs.FirstFaults.{EarliestLineIsFirstFault, EarliestLineIsReal}
use Rattle.core_book.specs.declared.verdict.ReportLine.TheVariants.{Local, Keep, Border}
use Rattle.soundness.proofs.FirstFaults.{assigned, first_means}
use Rattle.soundness.proofs.PlainCertificates.{greater, nat_greater}

-- ---- which line a list has

at_head : {X : Type 0} (x : X) (xs : List X) → Contains (x ∷ xs) x
at_head x xs = (zero, omega arith, refl)

not_mapped : {X Y : Type 0} (f : X → Y) (xs : List X) (y : Y) → ((x : X) → ¬ (f x ≡ y)) → ¬ Contains (map f xs) y
not_mapped f [] y never h = nothing_in y h
not_mapped f (x ∷ xs) y never (zero, lt, e) = never x e
not_mapped f (x ∷ xs) y never (suc k, lt, e) = not_mapped f xs y never (k, (omega (arith, lt)), e)

not_optional : {X Y : Type 0} (f : X → Y) (o : Option X) (y : Y) → ((x : X) → ¬ (f x ≡ y)) →
    ¬ Contains (option_to_list (option_map f o)) y
not_optional f None y never h = nothing_in y h
not_optional f (Some x) y never h = never x (one_in (f x) y h)

optional_there : {X Y : Type 0} (f : X → Y) (o : Option X) (x : X) → o ≡ Some x →
    Contains (option_to_list (option_map f o)) (f x)
optional_there f o x h1 = grind (arith, common_steps, same_Some, at_head)

local_number : ReportLine → ℕ
local_number (Local n f) = n
local_number _ = 0

local_fault : Fault → ReportLine → Fault
local_fault d (Local n f) = f
local_fault d _ = d

-- what a line on a fault says of the reasons
record IsFrom (number i : ℕ) (f : Fault) (fs : List LeastFaults) : Type 0 where
  place : ℕ
  reasons : LeastFaults
  listed : slice_get fs place ≡ Some reasons
  numbered : i ≡ number + place
  fault : reasons.fault ≡ Some f

own_line : (number i : ℕ) (f : Fault) (o : Option Fault) → Contains (option_to_list (local_line number o)) (Local i f) →
    (number ≡ i) × (o ≡ Some f)
unfolding local_number local_fault
own_line number i f None h = absurd (nothing_in (Local i f) h)
own_line number i f (Some g) h = grind (arith, common_steps, one_in, local_number, local_fault)

from_line : (number i : ℕ) (f : Fault) (fs : List LeastFaults) (bs : List (Option BorderFault)) →
    Contains (report_lines_from number fs bs) (Local i f) → IsFrom number i f fs
unfolding report_lines_from
from_line number i f [] bs h = absurd (nothing_in (Local i f) h)
from_line number i f (g ∷ fs) [] h = absurd (nothing_in (Local i f) h)
from_line number i f (g ∷ fs) (b ∷ bs) h =
    let A = option_to_list (local_line number g.fault) in
    let B = option_to_list (keep_line number g.keep) in
    let C = option_to_list (border_line number b) in
    elim (Contains-append_cases (A ++ B ++ C) (report_lines_from (number + 1) fs bs) (Local i f) h) [
      | inl here ↦ elim (Contains-append_cases (A ++ B) C (Local i f) here) [
        | inl two ↦ elim (Contains-append_cases A B (Local i f) two) [
          | inl first ↦ let own = own_line number i f g.fault first in let n = own.0 in
              record { place = 0; reasons = g; listed = refl; numbered = omega (arith, n); fault = own.1 }
          | inr second ↦ absurd (not_optional (λ f. Keep number f) g.keep (Local i f) (λ x e. cc) second)
        ]
        | inr third ↦ absurd (not_optional (λ f. Border number f) b (Local i f) (λ x e. cc) third)
      ]
      | inr later ↦
          let r : IsFrom (number + 1) i f fs = from_line (number + 1) i f fs bs later in
          let n = r.numbered in
          record {
            place = suc r.place;
            reasons = r.reasons;
            listed = r.listed;
            numbered = omega (arith, n);
            fault = r.fault;
          }
    ]

lists_local : (number k : ℕ) (fs : List LeastFaults) (bs : List (Option BorderFault)) (r : LeastFaults) (f : Fault) →
    slice_get fs k ≡ Some r → k < length bs → r.fault ≡ Some f →
    Contains (report_lines_from number fs bs) (Local (number + k) f)
unfolding report_lines_from
lists_local number k [] bs r f at lt is = absurd cc
lists_local number k (g ∷ fs) [] r f at lt is = absurd (omega (arith, lt))
lists_local number zero (g ∷ fs) (b ∷ bs) r f at lt is = grind (arith, common_steps, same_Some, optional_there)
lists_local number (suc k) (g ∷ fs) (b ∷ bs) r f at lt is =
    let A = option_to_list (local_line number g.fault) in
    let B = option_to_list (keep_line number g.keep) in
    let C = option_to_list (border_line number b) in
    Contains-append_right (A ++ B ++ C) (report_lines_from (number + 1) fs bs) (Local (number + suc k) f)
    (subst (λ n. Contains (report_lines_from (number + 1) fs bs) (Local n f)) (omega arith)
    (lists_local (number + 1) k fs bs r f at (omega (arith, lt)) is))

lists_border : (number k : ℕ) (fs : List LeastFaults) (bs : List (Option BorderFault)) (f : BorderFault) →
    slice_get bs k ≡ Some (Some f) → k < length fs → Contains (report_lines_from number fs bs) (Border (number + k) f)
unfolding report_lines_from
lists_border number k [] bs f at lt = absurd (omega (arith, lt))
lists_border number k (g ∷ fs) [] f at lt = absurd cc
lists_border number zero (g ∷ fs) (b ∷ bs) f at lt =
    let own : b ≡ Some f = same_Some b (Some f) at in
    let A = option_to_list (local_line number g.fault) in
    let B = option_to_list (keep_line number g.keep) in
    let C = option_to_list (border_line number b) in
    Contains-append_left (A ++ B ++ C) _ (Border (number + 0) f) (Contains-append_right (A ++ B) C _
    (subst (λ n. Contains C (Border n f)) (omega arith) (optional_there (λ f. Border number f) b f own)))
lists_border number (suc k) (g ∷ fs) (b ∷ bs) f at lt =
    let A = option_to_list (local_line number g.fault) in
    let B = option_to_list (keep_line number g.keep) in
    let C = option_to_list (border_line number b) in
    Contains-append_right (A ++ B ++ C) (report_lines_from (number + 1) fs bs) (Border (number + suc k) f)
    (subst (λ n. Contains (report_lines_from (number + 1) fs bs) (Border n f)) (omega arith)
    (lists_border (number + 1) k fs bs f at (omega (arith, lt))))

not_timing : (i : ℕ) (f : Fault) (l : TimeLine) → ¬ (timing_report_line l ≡ Local i f)
not_timing i f l = grind (arith, common_steps)

-- ---- times

no_later : (f g : Fault) → fault_cmp f g ≢ Greater → f.time ≤ g.time
no_later f g least = grind (arith, common_steps, greater)

border_greater : (f g : BorderFault) → g.time < f.time → border_fault_cmp f g ≡ Greater
unfolding border_fault_cmp
border_greater f g lt = ap (λ o. ordering_then o (cell_cmp f.cell g.cell)) (nat_greater f.time g.time lt)

no_later_border : (f g : BorderFault) → border_fault_cmp f g ≢ Greater → f.time ≤ g.time
no_later_border f g least = grind (arith, common_steps, border_greater)

-- ---- the report

module _ (g : Setting) (ms : List ModuleLines) (jobs : List JobView) (report : List ReportLine)
    (are : AreReportLines g ms jobs report) (count : length jobs ≡ length ms) where
  same_count : length are.faults ≡ length are.borders
  same_count = are.are_least.count ∙ count ∙ sym are.are_border_faults.count

  has_line : (l : ReportLine) → Contains (report_lines_from 0 are.faults are.borders) l → Contains report l
  has_line l h = grind (arith, common_steps)

  local_is : (i : ℕ) (f : Fault) → Contains report (Local i f) → IsFrom 0 i f are.faults
  local_is i f h =
      elim (Contains-append_cases (report_lines_from 0 are.faults are.borders ++ unkept_lines g ms)
      (map timing_report_line (delay_and_meet_lines g.circuit ms)) (Local i f)
      (subst (λ ls. Contains ls (Local i f)) are.lines_are h)) [
        | inl front ↦ elim (Contains-append_cases (report_lines_from 0 are.faults are.borders) (unkept_lines g ms)
            (Local i f) front) [
              | inl own ↦ from_line 0 i f are.faults are.borders own
              | inr other ↦ absurd (not_mapped (λ n. Unkept n) (unkept g ms) (Local i f) (λ x e. cc) other)
            ]
        | inr other ↦ absurd (not_mapped timing_report_line (delay_and_meet_lines g.circuit ms) (Local i f)
            (not_timing i f) other)
      ]

  its_fault : (i : ℕ) (f : Fault) (j : JobView) → Contains report (Local i f) → slice_get jobs i ≡ Some j → IsFault j f
  its_fault i f j h at =
      let r = local_is i f h in
      let n = r.numbered in
      let told : AreLeastFaultsOfJob j r.reasons = are.are_least.each i j r.reasons at
      (ap (slice_get are.faults) (omega (arith, n)) ∙ r.listed) in
      (subst (IsLeastFault j) r.fault told.fault).0

  by_least : (n : ℕ) (j : JobView) (r : LeastFaults) (o : Option Fault) (e : Fault) → slice_get are.faults n ≡ Some r →
      r.fault ≡ o → IsLeastFault j o → IsFault j e →
      (t : ℕ) → ((n : ℕ) (h : Fault) → Contains report (Local n h) → t ≤ h.time) → t ≤ e.time
  by_least n j r None e at is none fault t least = absurd (none e fault)
  by_least n j r (Some h) e at is own fault t least =
      let lt = slice_get_within are.faults n r at in
      let count = same_count in
      let first = least n h (has_line (Local n h)
      (subst (λ k. Contains (report_lines_from 0 are.faults are.borders) (Local k h)) (omega arith)
      (lists_local 0 n are.faults are.borders r h at (omega (arith, lt, count)) is))) in
      let next = no_later h e (own.1 e fault) in
      omega (arith, first, next)

  by_least_border : (n : ℕ) (o : Option BorderFault) (e : BorderFault) → slice_get are.borders n ≡ Some o →
      IsLeastBorderFault g ms n o → IsBorderFault g ms n e →
      (t : ℕ) → ((n : ℕ) (h : BorderFault) → Contains report (Border n h) → t ≤ h.time) → t ≤ e.time
  by_least_border n None e at none fault t least = absurd (none e fault)
  by_least_border n (Some h) e at own fault t least =
      let lt = slice_get_within are.borders n (Some h) at in
      let count = same_count in
      let first = least n h (has_line (Border n h)
      (subst (λ k. Contains (report_lines_from 0 are.faults are.borders) (Border k h)) (omega arith)
      (lists_border 0 n are.faults are.borders h at (omega (arith, lt, count))))) in
      let next = no_later_border h e (own.1 e fault) in
      omega (arith, first, next)

pub earliest_is_first : EarliestLineIsFirstFault
unfolding IsVerdict
earliest_is_first lines p ms jobs report inputs v i m j f b judged first atm atj s under =
    let g = setting_of lines p in
    let are = judged.1 in
    let count = b.are_jobs.count in
    record {
      bundle = b;
      lines_are = atm;
      job = j;
      numbered = atj;
      fault = its_fault g ms jobs report.items are count i f j first.listed atj;
      satisfied = s;
      under = under;
      before = λ t lt. record {
        of_jobs = λ n k e at kind time own fault.
            let r = some_at are.faults n (let inside = slice_get_within jobs n k at in let same = are.are_least.count in
            omega (arith, inside, same)) in
            let told : AreLeastFaultsOfJob k r.0 = are.are_least.each n k r.0 at r.1 in
            let le = by_least g ms jobs report.items are count n k r.0 r.0.fault e r.1 refl told.fault fault f.time
            first.of_jobs in
            omega (arith, le, lt, time);
        of_modules = λ n e time fault.
            let o = some_at are.borders n (let inside = slice_get_within ms n fault.lines fault.numbered in
            let same = are.are_border_faults.count in omega (arith, inside, same)) in
            let le = by_least_border g ms jobs report.items are count n o.0 e o.1 (are.are_border_faults.each n o.0 o.1)
            fault f.time first.of_borders in
            omega (arith, le, lt, time);
      };
    }

pub earliest_is_real : EarliestLineIsReal
unfolding IsVerdict
earliest_is_real lines p ms jobs report inputs v i m f named b judged first atm s has =
    let count = b.are_jobs.count in
    let within = slice_get_within ms i m atm in
    let j = some_at jobs i (omega (arith, count, within)) in
    let is = b.are_jobs.each i m j.0 atm j.1 in
    let fault : IsFault j.0 f =
    its_fault (setting_of lines p) ms jobs report.items judged.1 count i f j.0 first.listed j.1 in
    let under : IsAssignmentOf j.0 v f.assignment = record {
      in_range = fault.in_range;
      bits = assigned lines p m j.0 v f.assignment (b.are_modules.each i m atm) is has;
    } in
    first_means lines p ms jobs inputs v i m f named
    (earliest_is_first lines p ms jobs report inputs v i m j.0 f b judged first atm j.1 s under)
