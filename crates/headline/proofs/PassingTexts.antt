-- A text is accepted if its modules pass tests, which a proof by computation can run.
use Rattle.headline.proofs.Imports.{AnswersOrRefuses, AreJobsOf, Bundle, CertView, Err, IsReportOf, IsVerdict}
use Rattle.headline.proofs.Imports.{IsVerdictOn, JobView, List, ModuleLines, Ok, Pattern, Refusal, Result, SaysReport}
use Rattle.headline.proofs.Imports.{Yes, are_jobs_of, bundle_of, circuit_of, gates_are_ordered, job_of, layout_of}
use Rattle.headline.proofs.Imports.{layout_section, map, modules_in, refl, report_text, setting_of, subst, sym, ℕ, ◌≡◌}
use Rattle.soundness.proofs.Trials.{PassTests, accepts}
use Rattle.headline.proofs.SomeReport.{certificate_by, limits, modules_good, reported_by}
use Rattle.headline.proofs.YesIsRight.{bundle_good}
use Rattle.core_book.specs.declared.verdict.Verdict.TheVariants as verdict

-- the layout and the modules of a bundle
abbrev pub layout_in : Bundle → Pattern
layout_in b = layout_of b.size b.parts

abbrev pub modules_by : Bundle → List ModuleLines
modules_by b =
    modules_in (record { circuit = b.circuit; layout = layout_in b; version = b.version; entries = b.entries })

-- its layout has the lines of the bundle, and its modules pass the tests
pub record Passes (b : Bundle) : Type 0 where
  pub layout : layout_section (layout_in b) ≡ (b.size, b.parts)
  pub tests : PassTests (setting_of b.circuit (layout_in b)) (modules_by b)
      (map (job_of (circuit_of b.circuit) (layout_in b)) (modules_by b))

-- it is read, and passes
abbrev pub IsReadAndPasses : Result Bundle Refusal → Type 0
IsReadAndPasses (Ok b) = Passes b
IsReadAndPasses (Err refusal) = ⊥

module _ (text : List ℕ) (b : Bundle) (e : bundle_of text ≡ Ok b) (pass : Passes b) where
  abbrev p : Pattern
  p = layout_in b

  abbrev c : CertView
  c = certificate_by text b e p pass.layout

  abbrev js : List JobView
  js = map (job_of (circuit_of b.circuit) p) (modules_by b)

  are_jobs : AreJobsOf (circuit_of b.circuit) p (modules_by b) js
  are_jobs = let good = modules_good text b e p pass.layout in
      are_jobs_of b.circuit p (modules_by b) (gates_are_ordered b.circuit (bundle_good text b e).circuit)
      (λ k m at. (good.each k m at, good.ports k m at))

  is_verdict : IsVerdictOn c verdict.Yes
  unfolding IsVerdict
  is_verdict = let good = modules_good text b e p pass.layout in record {
    good = good;
    jobs = js;
    are_jobs = are_jobs;
    judged = accepts b.circuit p (modules_by b) js (limits text b e p pass.layout) good are_jobs pass.tests;
  }

  accepted_bundle : (output : List ℕ) × IsReportOf text output Yes
  accepted_bundle = (
    report_text c verdict.Yes,
    subst (λ r. AnswersOrRefuses SaysReport r (report_text c verdict.Yes) Yes) (sym e)
        (reported_by text b e p pass.layout verdict.Yes is_verdict),
  )

pub accepted_if : (text : List ℕ) → IsReadAndPasses (bundle_of text) → (output : List ℕ) × IsReportOf text output Yes
accepted_if text = by (bundle_of text) refl
  where
    by : (r : Result Bundle Refusal) → bundle_of text ≡ r → IsReadAndPasses r →
        (output : List ℕ) × IsReportOf text output Yes
    by (Ok b) e pass = accepted_bundle text b e pass
    by (Err refusal) e pass = absurd pass
