-- Conclusions from the faults of all jobs
use Rattle.lemmas.proofs.Common.{[], ◌++◌, ◌∙◌, ◌∷◌, ◌≡◌, Global, List, Option, Vec, arith, length, map, refl, sym}
use Rattle.lemmas.proofs.Common.{true}
use Rattle.border_match.specs.BorderFaults.{AreBorderFaultsOf}
use Rattle.border_match.specs.declared.fault.BorderFault.{BorderFault}
use Rattle.certificate.specs.Grammars.{CertView}
use Rattle.module_job.specs.Jobs.{JobView}
use Rattle.certificate.specs.Times.{are_all_timings_obeyed, delay_and_meet_lines}
use Rattle.core_book.specs.Concluding.{AreJobsOfCertificate, modules, setting}
use Rattle.core_book.specs.Verdicts.{AreLeastFaults, IsVerdict, report_lines_from, timing_report_line, unkept_lines}
use Rattle.core_book.specs.declared.verdict.LeastFaults.{LeastFaults}
use Rattle.core_book.specs.declared.verdict.ReportLine.{ReportLine}
use Rattle.core_book.specs.declared.verdict.Verdict.TheVariants.{Yes, No}
use Rattle.core_book.proofs.ReportLines.{accepted, accepted-no_lines}

pub is_empty_list : {X : Type 0} (xs : List X) → length xs ≡ 0 → xs ≡ []
is_empty_list [] e = refl
is_empty_list (x ∷ xs) e = absurd (omega (arith, e))

-- all that was found out: the jobs, their least faults, and those of the borders
pub record AreAllFaults (s : CertView) (jobs : List JobView) (fs : List LeastFaults)
    (bs : List (Option BorderFault)) : Type 0 where
  pub own : AreJobsOfCertificate s jobs
  pub least : AreLeastFaults jobs fs
  pub borders : AreBorderFaultsOf (setting s) (modules s) bs

pub same-count : (s : CertView) (jobs : List JobView) (fs : List LeastFaults) (bs : List (Option BorderFault)) →
    AreAllFaults s jobs fs bs → length fs ≡ length bs
same-count s jobs fs bs all = all.least.count ∙ all.own.count ∙ sym all.borders.count

pub verdict-yes : (s : CertView) (jobs : List JobView) (fs : List LeastFaults) (bs : List (Option BorderFault)) →
    AreAllFaults s jobs fs bs → report_lines_from 0 fs bs ++ unkept_lines (setting s) (modules s) ≡ [] →
    are_all_timings_obeyed (delay_and_meet_lines (setting s).circuit (modules s)) ≡ true →
    IsVerdict (setting s) (modules s) jobs Yes
unfolding IsVerdict
verdict-yes s jobs fs bs all none kept =
    accepted (setting s) (modules s) jobs fs bs all.least all.borders (same-count s jobs fs bs all) none kept

-- some line on a module or a gate that is not kept, or a rule that is broken
pub verdict-no : (s : CertView) (jobs : List JobView) (fs : List LeastFaults) (bs : List (Option BorderFault))
    (lines : Vec ReportLine Global) → AreAllFaults s jobs fs bs →
    lines.items ≡ report_lines_from 0 fs bs ++ unkept_lines (setting s) (modules s)
    ++ map timing_report_line (delay_and_meet_lines (setting s).circuit (modules s)) →
    ¬ ((report_lines_from 0 fs bs ++ unkept_lines (setting s) (modules s) ≡ [])
    × (are_all_timings_obeyed (delay_and_meet_lines (setting s).circuit (modules s)) ≡ true)) →
    IsVerdict (setting s) (modules s) jobs (No lines)
unfolding IsVerdict
verdict-no s jobs fs bs lines all lines_are some = (
  (λ is. some (accepted-no_lines (setting s) (modules s) jobs fs bs all.least all.borders is, is.on_time)),
  record { faults = fs; are_least = all.least; borders = bs; are_border_faults = all.borders; lines_are = lines_are },
)
