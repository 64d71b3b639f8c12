-- A text has one report.
use Rattle.headline.proofs.Imports.{AreJobsOf, AreModules, Bundle, CertView, HasAtMostOneAnswerToEachText, IsReportOf}
use Rattle.headline.proofs.Imports.{IsVerdict, IsVerdictOn, JobView, List, ModuleLines, None, Option, Outcome}
use Rattle.headline.proofs.Imports.{SaysReport, Some, Verdict, arith, circuit_of, common_steps, length, modules_in}
use Rattle.headline.proofs.Imports.{refl, report_text, setting_of, slice_get, slice_get_within, subst, sym, ℕ, ◌<◌, ◌∙◌}
use Rattle.headline.proofs.Imports.{◌≡◌}
use Rattle.soundness.proofs.ModuleJobs.{one_job}
use Rattle.core_book.specs.CoreLaws.{AreSameVerdicts}
use Rattle.core_book.proofs.OneVerdict.{none-past, same-elements, verdict-is-one}
use Rattle.answers.specs.CheckText.{IsCertificateOf}
use Rattle.headline.proofs.OneAnswer.{answered_once, one_layout}
use Rattle.core_book.specs.declared.verdict.Verdict.TheVariants as verdict

-- ---- modules have one list of jobs

module _ (c : CertView) (good : AreModules (setting_of c.circuit c.layout) (modules_in c)) where
  abbrev AreOwn : List JobView → Type 0
  AreOwn js = AreJobsOf (circuit_of c.circuit) c.layout (modules_in c) js

  same_job_at : (js ks : List JobView) → AreOwn js → AreOwn ks → (k : ℕ) (j i : JobView) → slice_get js k ≡ Some j →
      slice_get ks k ≡ Some i → j ≡ i
  same_job_at js ks own_j own_k k j i at_j at_k = by_module (slice_get (modules_in c) k) refl
    where
      by_module : (o : Option ModuleLines) → slice_get (modules_in c) k ≡ o → j ≡ i
      by_module None e =
          let past = none-past (modules_in c) k e in
          let below : k < length js = slice_get_within js k j at_j in
          absurd (omega (arith, past, below, own_j.count))
      by_module (Some m) e =
          one_job (circuit_of c.circuit) c.layout m j i (good.each k m e).local.different (own_j.each k m j e at_j)
          (own_k.each k m i e at_k)

  one_list_of_jobs : (js ks : List JobView) → AreOwn js → AreOwn ks → js ≡ ks
  one_list_of_jobs js ks own_j own_k =
      same-elements js ks (own_j.count ∙ sym own_k.count) (same_job_at js ks own_j own_k)

  verdict_over : (js ks : List JobView) (v : Verdict) → AreOwn js → AreOwn ks →
      IsVerdict (setting_of c.circuit c.layout) (modules_in c) js v →
      IsVerdict (setting_of c.circuit c.layout) (modules_in c) ks v
  verdict_over js ks v own_j own_k is = grind (arith, common_steps, (one_list_of_jobs js ks own_j own_k))

pub one_verdict : (c : CertView) (v w : Verdict) → IsVerdictOn c v → IsVerdictOn c w → AreSameVerdicts v w
one_verdict c v w a b =
    verdict-is-one (setting_of c.circuit c.layout) (modules_in c) a.jobs v w a.judged
    (verdict_over c a.good b.jobs a.jobs w b.are_jobs a.are_jobs b.judged)

-- ---- what is written of it

same_lines : (c : CertView) (v w : Verdict) → AreSameVerdicts v w → report_text c v ≡ report_text c w
unfolding report_text
same_lines c verdict.Yes verdict.Yes same = refl
same_lines c verdict.Yes (verdict.No lines) same = absurd same
same_lines c (verdict.No lines) verdict.Yes same = absurd same
same_lines c (verdict.No lines) (verdict.No others) same = grind (arith, common_steps, c.entries)

same_certificate : (bundle : Bundle) (c d : CertView) → IsCertificateOf bundle c → IsCertificateOf bundle d → c ≡ d
same_certificate bundle c d a b = grind (arith, common_steps, (one_layout c.layout d.layout (a.layout ∙ sym b.layout)))

one_said : (bundle : Bundle) (output output' : List ℕ) (outcome outcome' : Outcome) → SaysReport bundle output outcome →
    SaysReport bundle output' outcome' → (output ≡ output') × (outcome ≡ outcome')
one_said bundle output output' outcome outcome' h h' =
    let same : h.certificate ≡ h'.certificate =
    same_certificate bundle h.certificate h'.certificate h.its_own h'.its_own in
    let said : AreSameVerdicts h.verdict h'.verdict =
    one_verdict h.certificate h.verdict h'.verdict h.is_verdict
    (subst (λ c. IsVerdictOn c h'.verdict) (sym same) h'.is_verdict) in
    grind (arith, common_steps, same_lines)

pub one_report : HasAtMostOneAnswerToEachText IsReportOf
one_report text output output' outcome outcome' h h' = grind (arith, common_steps, answered_once, one_said)
