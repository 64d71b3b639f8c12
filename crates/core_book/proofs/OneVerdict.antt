-- The modules of a certificate have one verdict
use Rattle.core_book.proofs.Imports.{AreBorderFaultsOf, AreLeastFaults, AreLeastFaultsOfJob, BorderFault, JobView}
use Rattle.core_book.proofs.Imports.{LeastFaults, List, ModuleLines, None, Option, ReportLine, Setting, Some, [], arith}
use Rattle.core_book.proofs.Imports.{common_steps, delay_and_meet_lines, least_keep_unique, least_unique, length, map}
use Rattle.core_book.proofs.Imports.{refl, report_lines_from, slice_get, slice_get-get_or, slice_get_within, suc, sym}
use Rattle.core_book.proofs.Imports.{unkept_lines, zero, ℕ, ◌++◌, ◌<◌, ◌∙◌, ◌∷◌, ◌≡◌, ◌≤◌}
use Rattle.lemmas.proofs.Common.{same_lists}
use Rattle.core_book.specs.CoreLaws.{VerdictIsUnique}
use Rattle.core_book.specs.Verdicts.{AreReportLines, IsVerdict, timing_report_line}
use Rattle.core_book.specs.declared.verdict.Verdict.TheVariants.{Yes, No}
use Rattle.border_match.proofs.Unique.{least_unique as least_border_unique}

-- lists of one length with the same elements are the same
pub same-elements : {X : Type 0} (xs ys : List X) → length xs ≡ length ys →
    ((k : ℕ) (x y : X) → slice_get xs k ≡ Some x → slice_get ys k ≡ Some y → x ≡ y) → xs ≡ ys
same-elements xs ys len each = same_lists xs ys len
    (λ k d lt. each k _ _ (slice_get-get_or xs k d lt) (slice_get-get_or ys k d (omega (arith, lt, len))))

pub none-past : {X : Type 0} (xs : List X) (k : ℕ) → slice_get xs k ≡ None → length xs ≤ k
none-past [] k e = omega arith
none-past (x ∷ xs) zero e = absurd cc
none-past (x ∷ xs) (suc k) e = let rest = none-past xs k e in omega (arith, rest)

told_unique : (j : JobView) (x y : LeastFaults) → AreLeastFaultsOfJob j x → AreLeastFaultsOfJob j y → x ≡ y
told_unique j x y a b = grind (arith, common_steps, least_unique, least_keep_unique)

faults-same : (jobs : List JobView) (fs gs : List LeastFaults) → AreLeastFaults jobs fs → AreLeastFaults jobs gs →
    fs ≡ gs
faults-same jobs fs gs a b = same-elements fs gs (a.count ∙ sym b.count) each
  where
    each : (k : ℕ) (x y : LeastFaults) → slice_get fs k ≡ Some x → slice_get gs k ≡ Some y → x ≡ y
    each k x y hx hy = by_job (slice_get jobs k) refl
      where
        by_job : (o : Option JobView) → slice_get jobs k ≡ o → x ≡ y
        by_job None e = let past = none-past jobs k e in let below : k < length fs = slice_get_within fs k x hx in
            absurd (omega (arith, past, below, a.count))
        by_job (Some j) e = told_unique j x y (a.each k j x e hx) (b.each k j y e hy)

borders-same : (g : Setting) (ms : List ModuleLines) (fs gs : List (Option BorderFault)) → AreBorderFaultsOf g ms fs →
    AreBorderFaultsOf g ms gs → fs ≡ gs
borders-same g ms fs gs a b =
    same-elements fs gs (a.count ∙ sym b.count)
    (λ k x y hx hy. least_border_unique g ms k x y (a.each k x hx) (b.each k y hy))

lines-same : (g : Setting) (ms : List ModuleLines) (jobs : List JobView) (xs ys : List ReportLine) →
    AreReportLines g ms jobs xs → AreReportLines g ms jobs ys → xs ≡ ys
lines-same g ms jobs xs ys a b =
    a.lines_are ∙ (λ i. report_lines_from 0 (faults-same jobs a.faults b.faults a.are_least b.are_least i)
    (borders-same g ms a.borders b.borders a.are_border_faults b.are_border_faults i) ++ unkept_lines g ms
    ++ map timing_report_line (delay_and_meet_lines g.circuit ms)) ∙ sym b.lines_are

pub verdict-is-one : VerdictIsUnique
unfolding IsVerdict
verdict-is-one g ms jobs Yes Yes v w = tt
verdict-is-one g ms jobs Yes (No lines) v w = w.0 v
verdict-is-one g ms jobs (No lines) Yes v w = v.0 w
verdict-is-one g ms jobs (No lines) (No others) v w = lines-same g ms jobs lines.items others.items v.1 w.1
