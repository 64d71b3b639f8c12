-- The lines of a report
use Rattle.core_book.proofs.Imports.{AreBorderFaultsOf, AreLeastFaults, AreLeastFaultsOfJob, Bool, BorderFault}
use Rattle.core_book.proofs.Imports.{IsLeastFault, IsLeastKeepFault, JobView, LeastFaults, List, ModuleLines, None}
use Rattle.core_book.proofs.Imports.{Option, ReportLine, Setting, Some, [], ap, append-nil, append_assoc, arith}
use Rattle.core_book.proofs.Imports.{common_steps, cond, delay_and_meet_lines, get_or, inl, inr, length, map, not}
use Rattle.core_book.proofs.Imports.{option_map, refl, report_lines_from, same_Some, slice_get, slice_get-get_or}
use Rattle.core_book.proofs.Imports.{slice_get_within, subst, suc, sym, true, unkept_lines, zero, ℕ, ◌++◌, ◌+◌, ◌<◌}
use Rattle.core_book.proofs.Imports.{◌∙◌, ◌∷◌, ◌≡◌, ◌≤◌}
use Rattle.lemmas.proofs.Common.{◌&&◌, add-one, ap₂, drop, drop-cons, option_to_list, drop_all, slice_get_cases}
use Rattle.circuit.specs.Gates.{is_inverse}
use Rattle.circuit.specs.Meaning.{Gate}
use Rattle.certificate.specs.Keeps.{is_kept, unkept_gates_from}
use Rattle.certificate.specs.Times.{are_all_timings_obeyed}
use Rattle.local_run.specs.Faults.{IsFault, IsKeepFault}
use Rattle.local_run.specs.declared.fault.Fault.{Fault}
use Rattle.local_run.specs.declared.fault.KeepFault.{KeepFault}
use Rattle.border_match.specs.BorderFaults.{IsBorderFault, IsLeastBorderFault}
use Rattle.core_book.specs.Verdicts.{Accepts, border_line, keep_line, local_line, renumber_keep}
use Rattle.core_book.specs.declared.verdict.ReportLine.TheVariants.{Local, Keep, Border, Unkept}

-- ---- no lines

nil_parts : {X : Type 0} (xs ys : List X) → xs ++ ys ≡ [] → (xs ≡ []) × (ys ≡ [])
nil_parts [] ys e = (refl, e)
nil_parts (x ∷ xs) ys e = absurd (clash e)
  where
    clash : {Y : Type 0} {z : Y} {zs : List Y} → (z ∷ zs) ≡ [] → ⊥
    clash e = cc

no_option : {X Y : Type 0} (f : X → Y) (o : Option X) → option_to_list (option_map f o) ≡ [] → o ≡ None
no_option f o h1 = grind (arith, common_steps)

none_listed : {X Y : Type 0} (f : X → Y) (o : Option X) → o ≡ None → option_to_list (option_map f o) ≡ []
none_listed f o e = ap (λ p. option_to_list (option_map f p)) e

-- nothing is told of a job
abbrev pub IsClear : LeastFaults → Type 0
IsClear f = (f.fault ≡ None) × (f.keep ≡ None)

record NoneHere (n : ℕ) (f : LeastFaults) (b : Option BorderFault) (rest : List ReportLine) : Type 0 where
  clear : IsClear f
  border : b ≡ None
  later : rest ≡ []

none_here : (n : ℕ) (f : LeastFaults) (b : Option BorderFault) (rest : List ReportLine) →
    option_to_list (local_line n f.fault) ++ option_to_list (keep_line n f.keep) ++ option_to_list (border_line n b)
    ++ rest ≡ [] → NoneHere n f b rest
none_here n f b rest e = grind (arith, common_steps, nil_parts, no_option)

no_faults : (n : ℕ) (fs : List LeastFaults) (bs : List (Option BorderFault)) → length fs ≡ length bs →
    report_lines_from n fs bs ≡ [] → (k : ℕ) (f : LeastFaults) → slice_get fs k ≡ Some f → IsClear f
unfolding report_lines_from
no_faults n [] bs len e k f got = absurd cc
no_faults n (x ∷ fs) [] len e k f got = absurd (omega (arith, len))
no_faults n (x ∷ fs) (b ∷ bs) len e zero f got = grind (arith, common_steps, same_Some, none_here)
no_faults n (x ∷ fs) (b ∷ bs) len e (suc k) f got =
    no_faults (n + 1) fs bs (omega (arith, len)) (none_here n x b (report_lines_from (n + 1) fs bs) e).later k f got

no_border_faults : (n : ℕ) (fs : List LeastFaults) (bs : List (Option BorderFault)) → length fs ≡ length bs →
    report_lines_from n fs bs ≡ [] → (k : ℕ) (b : Option BorderFault) → slice_get bs k ≡ Some b → b ≡ None
unfolding report_lines_from
no_border_faults n fs [] len e k b got = absurd cc
no_border_faults n [] (y ∷ bs) len e k b got = absurd (omega (arith, len))
no_border_faults n (x ∷ fs) (y ∷ bs) len e zero b got = grind (arith, common_steps, same_Some, none_here)
no_border_faults n (x ∷ fs) (y ∷ bs) len e (suc k) b got =
    no_border_faults (n + 1) fs bs (omega (arith, len))
    (none_here n x y (report_lines_from (n + 1) fs bs) e).later k b got

no_lines : (n : ℕ) (fs : List LeastFaults) (bs : List (Option BorderFault)) →
    ((k : ℕ) (f : LeastFaults) → slice_get fs k ≡ Some f → IsClear f) →
    ((k : ℕ) (b : Option BorderFault) → slice_get bs k ≡ Some b → b ≡ None) → report_lines_from n fs bs ≡ []
unfolding report_lines_from
no_lines n [] bs no_fs no_bs = refl
no_lines n (f ∷ fs) [] no_fs no_bs = refl
no_lines n (f ∷ fs) (b ∷ bs) no_fs no_bs =
    let clear : IsClear f = no_fs zero f refl in
    ap₂ (λ (x y : List ReportLine). x ++ y)
    (ap₂ (λ (x y : List ReportLine). x ++ y)
    (ap₂ (λ (x y : List ReportLine). x ++ y) (none_listed (λ f. Local n f) f.fault clear.0)
    (none_listed (λ f. Keep n f) f.keep clear.1))
    (none_listed (λ f. Border n f) b (no_bs zero b refl)))
    (no_lines (n + 1) fs bs (λ k. no_fs (suc k)) (λ k. no_bs (suc k)))

-- ---- gates that nobody keeps
kept_from : (ms : List ModuleLines) (n : ℕ) (gs : List Gate) → unkept_gates_from ms n gs ≡ [] → (k : ℕ) (g : Gate) →
    slice_get gs k ≡ Some g → is_inverse g.kind ≡ true → is_kept ms (n + k) ≡ true
unfolding unkept_gates_from
kept_from ms n [] e k g at inverse = absurd cc
kept_from ms n (h ∷ gs) e zero g at inverse =
    let same : h ≡ g = same_Some h g at in
    let parts = nil_parts (cond (is_inverse h.kind && not (is_kept ms n)) (n ∷ []) []) _ e in
    let here : n ≡ n + 0 = omega arith in
    subst (λ m. is_kept ms m ≡ true) here
    (not_listed (is_inverse h.kind) (is_kept ms n) n parts.0 (ap (λ (g : Gate). is_inverse g.kind) same ∙ inverse))
  where
    not_listed : (i k : Bool) (n : ℕ) → cond (i && not k) (n ∷ []) [] ≡ [] → i ≡ true → k ≡ true
    not_listed i k n h1 h2 = grind (arith, common_steps)
kept_from ms n (h ∷ gs) e (suc k) g at inverse =
    let parts = nil_parts (cond (is_inverse h.kind && not (is_kept ms n)) (n ∷ []) []) _ e in
    let here : n + 1 + k ≡ n + suc k = omega arith in
    subst (λ m. is_kept ms m ≡ true) here (kept_from ms (n + 1) gs parts.1 k g at inverse)

all_kept_from : (ms : List ModuleLines) (n : ℕ) (gs : List Gate) →
    ((k : ℕ) (g : Gate) → slice_get gs k ≡ Some g → is_inverse g.kind ≡ true → is_kept ms (n + k) ≡ true) →
    unkept_gates_from ms n gs ≡ []
unfolding unkept_gates_from
all_kept_from ms n [] kept = refl
all_kept_from ms n (g ∷ gs) kept =
    ap₂ (λ (x y : List ℕ). x ++ y)
    (none (is_inverse g.kind) (is_kept ms n)
    (λ i. let here : n + 0 ≡ n = omega arith in subst (λ m. is_kept ms m ≡ true) here (kept zero g refl i)))
    (all_kept_from ms (n + 1) gs (λ k f at i. let here : n + suc k ≡ n + 1 + k = omega arith in
    subst (λ m. is_kept ms m ≡ true) here (kept (suc k) f at i)))
  where
    none : (i k : Bool) → (i ≡ true → k ≡ true) → cond (i && not k) (n ∷ []) [] ≡ []
    none i k h1 = grind (arith, common_steps)

none_mapped : (ns : List ℕ) → map (λ n. Unkept n) ns ≡ [] → ns ≡ []
none_mapped [] e = refl
none_mapped (n ∷ ns) e = absurd cc

from_none : (k : ℕ) → 0 + k ≡ k
from_none k = omega arith

-- ---- what is accepted has no lines, and only that

pub accepted : (g : Setting) (ms : List ModuleLines) (jobs : List JobView) (fs : List LeastFaults)
    (bs : List (Option BorderFault)) → AreLeastFaults jobs fs → AreBorderFaultsOf g ms bs → length fs ≡ length bs →
    report_lines_from 0 fs bs ++ unkept_lines g ms ≡ [] →
    are_all_timings_obeyed (delay_and_meet_lines g.circuit ms) ≡ true → Accepts g ms jobs
accepted g ms jobs fs bs least borders len e rules = record {
  no_fault = λ k j f at.
      let t = told k j at in
      subst (IsLeastFault j) t.1.0 t.0.fault f;
  no_border_fault = λ k f is.
      let below : k < length ms = slice_get_within ms k is.lines is.numbered in
      let got : slice_get bs k ≡ Some (get_or bs k None) = slice_get-get_or bs k None (omega (arith, borders.count)) in
      let none : get_or bs k None ≡ None = no_border_faults 0 fs bs len parts.0 k (get_or bs k None) got in
      subst (IsLeastBorderFault g ms k) none (borders.each k (get_or bs k None) got) f is;
  no_keep_fault = λ k j f at.
      let t = told k j at in
      subst (IsLeastKeepFault j) (unmapped _ t.0.keep (sym t.0.same ∙ t.1.1)) t.0.least_keep f;
  kept = λ k gate at inverse. subst (λ m. is_kept ms m ≡ true) (from_none k)
      (kept_from ms 0 g.circuit.netlist.gates (none_mapped _ parts.1) k gate at inverse);
  on_time = rules;
}
  where
    parts : (report_lines_from 0 fs bs ≡ []) × (unkept_lines g ms ≡ [])
    parts = nil_parts (report_lines_from 0 fs bs) (unkept_lines g ms) e

    nothing : LeastFaults
    nothing = record { fault = None; keep = None }

    told : (k : ℕ) (j : JobView) → slice_get jobs k ≡ Some j →
        AreLeastFaultsOfJob j (get_or fs k nothing) × IsClear (get_or fs k nothing)
    told k j at =
        let below : k < length jobs = slice_get_within jobs k j at in
        let got : slice_get fs k ≡ Some (get_or fs k nothing) =
        slice_get-get_or fs k nothing (omega (arith, least.count)) in
        (least.each k j (get_or fs k nothing) at got, no_faults 0 fs bs len parts.0 k (get_or fs k nothing) got)

    unmapped : {X Y : Type 0} (f : X → Y) (o : Option X) → option_map f o ≡ None → o ≡ None
    unmapped f None e = refl
    unmapped f (Some x) e = absurd cc

-- a job with a least fault has a fault
no_least : (j : JobView) (f : Option Fault) → IsLeastFault j f → ((x : Fault) → ¬ IsFault j x) → f ≡ None
no_least j f h1 h2 = grind (arith, common_steps)

no_least_keep : (j : JobView) (f : Option KeepFault) → IsLeastKeepFault j f → ((x : KeepFault) → ¬ IsKeepFault j x) →
    f ≡ None
no_least_keep j f h1 h2 = grind (arith, common_steps)

no_least_border : (g : Setting) (ms : List ModuleLines) (k : ℕ) (b : Option BorderFault) → IsLeastBorderFault g ms k b →
    ((x : BorderFault) → ¬ IsBorderFault g ms k x) → b ≡ None
no_least_border g ms k None least none = refl
no_least_border g ms k (Some x) least none = absurd (none x least.0)

pub accepted-no_lines : (g : Setting) (ms : List ModuleLines) (jobs : List JobView) (fs : List LeastFaults)
    (bs : List (Option BorderFault)) → AreLeastFaults jobs fs → AreBorderFaultsOf g ms bs → Accepts g ms jobs →
    report_lines_from 0 fs bs ++ unkept_lines g ms ≡ []
accepted-no_lines g ms jobs fs bs least borders is = ap₂ (λ (x y : List ReportLine). x ++ y)
    (no_lines 0 fs bs
    (λ k f got.
    let below : k < length fs = slice_get_within fs k f got in
    elim (slice_get_cases jobs k).1 [
      | inl j ↦
          let t : AreLeastFaultsOfJob j.0 f = least.each k j.0 f j.2 got in (
            no_least j.0 f.fault t.fault (λ x. is.no_fault k j.0 x j.2),
            t.same ∙ ap (λ o. option_map (renumber_keep j.0) o)
                (no_least_keep j.0 t.keep t.least_keep (λ x. is.no_keep_fault k j.0 x j.2)),
          )
      | inr past ↦ absurd (omega (arith, least.count, past.0))
    ])
    (λ k b got. no_least_border g ms k b (borders.each k b got) (is.no_border_fault k)))
    (ap (map (λ n. Unkept n)) (all_kept_from ms 0 g.circuit.netlist.gates
    (λ k gate at inverse. subst (λ m. is_kept ms m ≡ true) (sym (from_none k)) (is.kept k gate at inverse))))

-- ---- module by module

report_lines_from-step : (n : ℕ) (fs : List LeastFaults) (bs : List (Option BorderFault)) (d : LeastFaults) →
    n < length fs → n < length bs →
    report_lines_from n (drop n fs) (drop n bs)
    ≡ option_to_list (local_line n (get_or fs n d).fault) ++ option_to_list (keep_line n (get_or fs n d).keep)
    ++ option_to_list (border_line n (get_or bs n None))
    ++ report_lines_from (n + 1) (drop (n + 1) fs) (drop (n + 1) bs)
unfolding report_lines_from
report_lines_from-step n fs bs d inside inside_too = grind (arith, common_steps, drop-cons, add-one)

-- the lines so far, with those on a module more
pub one_module_more : (all lines with_local with_keep with_all : List ReportLine) (n : ℕ) (fs : List LeastFaults)
    (bs : List (Option BorderFault)) (d : LeastFaults) (x z y : Option ReportLine) → n < length fs →
    length fs ≡ length bs → x ≡ local_line n (get_or fs n d).fault → z ≡ keep_line n (get_or fs n d).keep →
    y ≡ border_line n (get_or bs n None) → with_local ≡ lines ++ option_to_list x →
    with_keep ≡ with_local ++ option_to_list z → with_all ≡ with_keep ++ option_to_list y →
    lines ++ report_lines_from n (drop n fs) (drop n bs) ≡ all →
    with_all ++ report_lines_from (n + 1) (drop (n + 1) fs) (drop (n + 1) bs) ≡ all
one_module_more all lines with_local with_keep with_all n fs bs d x z y inside len x_is z_is y_is first second third
    so_far = grind (arith, common_steps, append_assoc, report_lines_from-step)

pub all_modules : (all lines : List ReportLine) (n : ℕ) (fs : List LeastFaults) (bs : List (Option BorderFault)) →
    length fs ≤ n → lines ++ report_lines_from n (drop n fs) (drop n bs) ≡ all → lines ≡ all
unfolding report_lines_from
all_modules all lines n fs bs past so_far = grind (arith, common_steps, drop_all, append-nil)
