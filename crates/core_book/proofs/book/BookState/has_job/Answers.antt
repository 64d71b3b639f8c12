use Rattle.core_book.proofs.Imports.{BookView, ap, arc_value}
use Rattle.core_book.proofs.Filings.{job-told, no_job-told}
use Rattle.core_book.proofs.book.BookState.has_job.Goals as goal

pub returns-in-Some : goal.returns-in-Some
returns-in-Some c =
    job-told arc_value c.args.self.now.jobs c.self.inside.jobs.items c.deref.result.now c.args.number c.in-Some.own.now
    c.deref-in-Some.result.now c.args.job.now c.eq.result
    (ap (λ (v : BookView). v.jobs) c.self.view_is) c.deref.ensures.value c.in-Some.ensures.lookup.3.0
    c.in-Some.ensures.lookup.1 c.deref-in-Some.ensures c.eq.ensures

pub returns-in-None : goal.returns-in-None
returns-in-None c =
    no_job-told arc_value c.args.self.now.jobs c.self.inside.jobs.items c.deref.result.now c.args.number c.args.job.now
    (ap (λ (v : BookView). v.jobs) c.self.view_is) c.deref.ensures.value c.in-None.ensures.lookup.3
