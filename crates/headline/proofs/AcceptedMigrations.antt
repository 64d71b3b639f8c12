-- A text that is reported with a yes is so too after it is migrated.
use Rattle.headline.proofs.Imports.{Accepts, AnswersOrRefuses, AreJobsOf, Bool, Bundle, CertView, CircuitLine}
use Rattle.headline.proofs.Imports.{IsFaultless, IsReportOf, IsVerdict, IsVerdictOn, List, ModuleLines, Ok, Pattern}
use Rattle.headline.proofs.Imports.{Refusal, Result, SaysReport, Setting, Yes, ap, ap₂, arith, bundle_of}
use Rattle.headline.proofs.Imports.{certificate_grammar, circuit_of, common_steps, false, faultless_modules}
use Rattle.headline.proofs.Imports.{has_nonlocal_edge_wire_beside, is_haloless_version, layout_of, layout_section}
use Rattle.headline.proofs.Imports.{meant_modules, meant_old, migrate_of, migrated_bundle, modules_in, modules_of}
use Rattle.headline.proofs.Imports.{nat_tests, read_complete, refl, report_text, setting_of, subst, sym, true}
use Rattle.headline.proofs.Imports.{without_halo_lines, ℕ, ◌++◌, ◌==◌, ◌∙◌, ◌≡◌, ◌≤◌}
use Rattle.certificate.specs.Grammars.{migrated}
use Rattle.certificate.specs.Laws.{IsSectionOf}
use Rattle.certificate.proofs.Migrated.{faultless_lines, migrated_lacks, migrated_modules}
use Rattle.certificate.proofs.Soundness.{read_version}
use Rattle.soundness.specs.MigrationLaws.{IsAcceptedMigration}
use Rattle.soundness.proofs.Migrated.{migration_accepted}
use Rattle.headline.specs.Migration.{MigrationKeepsYes}
use Rattle.headline.proofs.OneAnswer.{layout_from}
use Rattle.headline.proofs.FullJobs.{full_jobs}
use Rattle.headline.proofs.Migrations.{HasSections, IsGoodBundle, IsMigrated, bundle_made, good_read, migrated_sections}
use Rattle.headline.proofs.Migrations.{says_design, sections_read, unchanged, was_migrated}
use Rattle.headline.proofs.YesIsRight.{by_outcome}
use Rattle.section_text.specs.declared.limits.Limits.{Limits}
use Rattle.meaning.specs.Design.{front_text, text_limits}
use Rattle.core_book.specs.declared.verdict.Verdict.TheVariants as verdict

-- ---- two words for good lines

-- ---- the certificate of a report

-- a bundle by its sizes and parts has the setting of its layout
own_setting : (b : Bundle) (circuit : List CircuitLine) (p : Pattern) → circuit ≡ b.circuit →
    layout_section p ≡ (b.size, b.parts) → setting_of b.circuit (layout_of b.size b.parts) ≡ setting_of circuit p
own_setting b circuit p lines same = ap₂ setting_of (sym lines) (layout_from p b.size b.parts same)

-- what is reported of the migrated text
record IsReportedYes (output : List ℕ) : Type 0 where
  pub report : List ℕ
  pub reported : IsReportOf output report Yes

module _ (text report output : List ℕ) (b : Bundle) (read : bundle_of text ≡ Ok b) (says : SaysReport b report Yes)
    (is : says.verdict ≡ verdict.Yes) (one : b.version ≡ 1)
    (written : output ≡ front_text (text_limits text) ++ migrate_of b) where
  abbrev l : Limits
  l = text_limits text

  abbrev c : CertView
  c = says.certificate

  abbrev g : Setting
  g = setting_of c.circuit c.layout

  abbrev ms : List ModuleLines
  ms = modules_of c.entries

  good : IsGoodBundle l b
  good = good_read text b read

  own : setting_of b.circuit (layout_of b.size b.parts) ≡ g
  own = own_setting b c.circuit c.layout says.its_own.circuit says.its_own.layout

  version : c.version ≡ 1
  version = says.its_own.version ∙ one

  -- its lines are a section of version 1
  faultless : IsFaultless (certificate_grammar l g) 1 c.entries
  faultless = grind (arith, common_steps, own, good)

  section : IsSectionOf l g 1 c.entries
  section = grind (arith, common_steps, faultless)

  accepts : Accepts g (modules_in c) says.is_verdict.jobs
  unfolding IsVerdict
  accepts = subst (λ v. IsVerdict g (modules_in c) says.is_verdict.jobs v) is says.is_verdict.judged

  accepted : IsAcceptedMigration l c
  accepted = migration_accepted l c says.is_verdict.jobs version section says.is_verdict.are_jobs accepts

  -- and without halo lines a section of version 2
  faultless_two : IsFaultless (certificate_grammar l g) 2 (without_halo_lines c.entries)
  faultless_two = grind (arith, common_steps, accepted, faultless_lines)

  good_two : IsGoodBundle l (migrated_bundle b)
  good_two = grind (arith, common_steps, good, own, faultless_two)

  read_two : bundle_of output ≡ Ok (migrated_bundle b)
  read_two =
      let made = migrated_sections l text b (sections_read text b read) in
      bundle_made output (migrated_bundle b)
      (subst (λ t. HasSections t (migrated_bundle b)) (sym written)
      made.1) (subst (λ m. IsGoodBundle m (migrated_bundle b)) (sym (ap text_limits written ∙ made.0)) good_two)

  complete : has_nonlocal_edge_wire_beside g ms ≡ false
  complete = sym (migrated_lacks g c.entries) ∙ read_complete l g 2 (without_halo_lines c.entries) faultless_two

  same_modules : modules_in c ≡ ms
  same_modules = meant_old c.version g ms (ap is_haloless_version version)

  verdict_two : IsVerdictOn (migrated c) verdict.Yes
  unfolding IsVerdict
  verdict_two =
      let jobs = full_jobs c.circuit c.layout ms
      (faultless_modules l g 1 c.entries faultless) complete says.is_verdict.jobs
      (subst (λ ns. AreJobsOf (circuit_of c.circuit) c.layout ns says.is_verdict.jobs) same_modules
      says.is_verdict.are_jobs) in
      let are : AreJobsOf (circuit_of c.circuit) c.layout (modules_in (migrated c)) jobs.0 =
      subst (λ ns. AreJobsOf (circuit_of c.circuit) c.layout ns jobs.0) (sym (migrated_modules g c.entries)) jobs.1 in
      grind (arith, common_steps, good, meant_modules, faultless_modules, faultless_two, read_complete, accepted)

  reported : SaysReport (migrated_bundle b) (report_text (migrated c) verdict.Yes) Yes
  reported = grind (arith, common_steps, version, verdict_two)

  reported_yes : IsReportedYes output
  reported_yes = record {
    report = report_text (migrated c) verdict.Yes;
    reported = subst (λ r. AnswersOrRefuses SaysReport r (report_text (migrated c) verdict.Yes) Yes)
        (sym read_two) reported;
  }

-- ---- of either version

which_version : (v : ℕ) → 1 ≤ v → v ≤ 2 → (v == 2) ≡ false → v ≡ 1
which_version v low high other = grind (arith, nat_tests)

is_two : (v : ℕ) → (v == 2) ≡ true → v ≡ 2
is_two v same = grind (arith, nat_tests)

same_bundle : (b d : Bundle) → ◌≡◌ {A = Result Bundle Refusal} (Ok b) (Ok d) → b ≡ d
same_bundle b d e = cc

of_bundle : (text report output : List ℕ) (m : IsMigrated text output) → IsReportOf text report Yes → (b : Bundle) →
    bundle_of text ≡ Ok b → (says : SaysReport b report Yes) → says.verdict ≡ verdict.Yes → IsReportedYes output
of_bundle text report output m reports b read says is = by (b.version == 2) refl
  where
    same : m.bundle ≡ b
    same = same_bundle m.bundle b (sym m.read ∙ read)

    by : (t : Bool) → (b.version == 2) ≡ t → IsReportedYes output
    by true two =
        let unmoved : output ≡ text =
        unchanged text output m (ap (λ (d : Bundle). d.version) same ∙ is_two b.version two) in
        record { report = report; reported = subst (λ t. IsReportOf t report Yes) (sym unmoved) reports }
    by false other =
        let v = read_version (text_limits text) (setting_of b.circuit (layout_of b.size b.parts)) b.version b.entries
        ((good_read text b read).certificate) in
        reported_yes text report output b read says is (which_version b.version v.0 v.1 other)
        (m.says ∙ ap (λ d. front_text (text_limits text) ++ migrate_of d) same)

pub migration_is-accepted : MigrationKeepsYes
migration_is-accepted text report output reports migrates =
    let m = was_migrated text output migrates in
    let r = by_outcome (IsReportedYes output) text report (of_bundle text report output m reports)
    (bundle_of text) refl reports in
    record {
      report = r.report;
      reported = r.reported;
      design = λ circuit layout says. says_design text output circuit layout m says;
    }
