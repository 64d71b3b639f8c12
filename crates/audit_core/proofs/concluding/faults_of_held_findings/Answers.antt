use Rattle.lemmas.proofs.Common.{◌+◌, ◌∙◌, ◌≡◌, map, subst, sym, ℕ, arc_value}
use Rattle.module_job.specs.Jobs.{JobView}
use Rattle.core_book.specs.Verdicts.{IsFindingHeld, IsFirstMissingFinding}
use Rattle.core_book.proofs.HeldJobs.{AreFaultsBelow, first-missing, job-at, one-more}
use Rattle.audit_core.proofs.concluding.faults_of_held_findings.Goals as goal

pub returns-in_default-clause-missing : goal.returns-in_default-clause-missing
returns-in_default-clause-missing c = λ number e.
    let b = c.args.book.now in
    let jobs = map arc_value c.args.jobs.now in
    let n = c.loop-number.number in
    let same : n ≡ number = cc in
    let at = job-at arc_value c.args.jobs.now n c.index-jobs-number.result c.loop-number-test.true
    c.index-jobs-number.is in
    let missing : ¬ IsFindingHeld b n (arc_value c.index-jobs-number.result) =
    subst (λ (j : JobView). ¬ IsFindingHeld b n j) c.deref.ensures c.in_default.ensures.missing in
    subst (λ (k : ℕ). IsFirstMissingFinding b jobs k) same
    (first-missing b jobs n c.loop-number.faults.items _ c.loop-number.invariant at missing)

pub loop-number-preserved : goal.loop-number-preserved
loop-number-preserved c =
    let b = c.args.book.now in
    let jobs = map arc_value c.args.jobs.now in
    let n = c.loop-number.number in
    let fs = c.loop-number.faults.items in
    let at = job-at arc_value c.args.jobs.now n c.index-jobs-number.result c.loop-number-test.true
    c.index-jobs-number.is in
    let more = one-more b jobs n fs _ c.in-Some.finding.now c.least_faults_of.result c.loop-number.invariant at
    c.in-Some.ensures.finding_held.0 (c.in-Some.ensures.finding_held.1 ∙ c.deref.ensures) c.least_faults_of.ensures in
    subst (AreFaultsBelow b jobs (n + 1)) (sym c.in_ok-push.ensures.items) more
