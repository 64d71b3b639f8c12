-- The answer of `check` to a text: the report on a bundle's certificate, or the refusal of the text.
use Rattle.std.specs.Prelude.{◌≡◌, ℕ, List}
use Rattle.circuit.specs.Bridge.{circuit_of}
use Rattle.pattern.specs.Grammars.{layout_section}
use Rattle.certificate.specs.Grammars.{CertView, modules_in}
use Rattle.certificate_lines.specs.Settings.{setting_of}
use Rattle.module_job.specs.Jobs.{JobView}
use Rattle.certificate.specs.Jobs.{AreJobsOf}
use Rattle.certificate_lines.specs.Modules.{AreModules}
use Rattle.core_book.specs.Verdicts.{IsVerdict}
use Rattle.core_book.specs.declared.verdict.Verdict.{Verdict}
use Rattle.core_book.specs.declared.verdict.Verdict.TheVariants as verdict
use Rattle.report.specs.ReportText.{report_text}
use Rattle.answers.specs.declared.outcome.Outcome.{Outcome}
use Rattle.answers.specs.declared.outcome.Outcome.TheVariants.{Yes, No}
use Rattle.answers.specs.Answers.{AnswersOrRefuses}
use Rattle.answers.specs.BundleText.{Bundle, bundle_of}

-- the certificate has the lines of the bundle, and so have its circuit and its layout
pub record IsCertificateOf (bundle : Bundle) (c : CertView) : Type 0 where
  pub circuit : c.circuit ≡ bundle.circuit
  pub layout : layout_section c.layout ≡ (bundle.size, bundle.parts)
  pub version : c.version ≡ bundle.version
  pub entries : c.entries ≡ bundle.entries

-- the verdict on a certificate whose modules are as the grammar asks: on their jobs and on their borders
pub record IsVerdictOn (c : CertView) (v : Verdict) : Type 0 where
  pub good : AreModules (setting_of c.circuit c.layout) (modules_in c)
  pub jobs : List JobView
  pub are_jobs : AreJobsOf (circuit_of c.circuit) c.layout (modules_in c) jobs
  pub judged : IsVerdict (setting_of c.circuit c.layout) (modules_in c) jobs v

-- the outcome for a verdict
abbrev pub verdict_outcome : Verdict → Outcome
verdict_outcome verdict.Yes = Yes
verdict_outcome (verdict.No lines) = No

-- the report on the bundle's certificate
pub record SaysReport (bundle : Bundle) (output : List ℕ) (outcome : Outcome) : Type 0 where
  pub certificate : CertView
  pub its_own : IsCertificateOf bundle certificate
  pub verdict : Verdict
  pub is_verdict : IsVerdictOn certificate verdict
  pub says : output ≡ report_text certificate verdict
  pub ends : outcome ≡ verdict_outcome verdict

-- what `check` writes for a text, and how it ends
abbrev pub IsReportOf : List ℕ → List ℕ → Outcome → Type 0
IsReportOf text output outcome = AnswersOrRefuses SaysReport (bundle_of text) output outcome
