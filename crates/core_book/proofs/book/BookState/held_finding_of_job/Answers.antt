use Rattle.core_book.proofs.Imports.{sym, ◌∙◌}
use Rattle.core_book.proofs.HeldJobs.{whole-job, other-job}
use Rattle.core_book.proofs.book.BookState.held_finding_of_job.Goals as goal

pub returns-then-eq-clause-finding_held : goal.returns-then-eq-clause-finding_held
returns-then-eq-clause-finding_held c = (
  sym c.in-Some.ensures.held,
  whole-job c.args.job.now c.deref.result.now c.in-Some.finding.now c.eq.result c.eq.ensures
      (c.deref.ensures ∙ c.job.ensures) c.if-eq.true,
)

pub returns-else-eq-clause-missing : goal.returns-else-eq-clause-missing
returns-else-eq-clause-missing c =
    other-job c.args.self.now c.args.number c.in-Some.finding.now c.args.job.now c.deref.result.now c.eq.result
    c.in-Some.ensures.held c.eq.ensures (c.deref.ensures ∙ c.job.ensures) c.if-eq.false
