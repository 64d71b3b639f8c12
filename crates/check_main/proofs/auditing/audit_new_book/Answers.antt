-- The book is filled up behind what the workers filed, and closed.
use Rattle.check_main.proofs.Imports.{AreJobsOfCertificate, ap, arith, map, subst, sym, ◌∙◌}
use Rattle.lemmas.proofs.Common.{arc_value}
use Rattle.core_book.proofs.Fillings.{clones-same}
use Rattle.check_main.proofs.Closings.{audit_of, completed_closed, many_filings, no_history}
use Rattle.check_main.proofs.auditing.audit_new_book.Goals as goal

pub work_on_new_book-requires-clause-history_empty : goal.work_on_new_book-requires-clause-history_empty
work_on_new_book-requires-clause-history_empty g c κs within = no_history c.args.state _ _ c.requires.book.is_new

pub fill_and_close-requires : goal.fill_and_close-requires
fill_and_close-requires g c =
    let still = c.in_ok-audited.ensures.open_for_jobs in
    let copied = clones-same arc_value c.jobs.result.now c.in_ok-copies.copies.items c.in_ok-copies.ensures.ok in
    record {
      open_for_jobs = record {
        still_open = still.still_open;
        digest_is = still.digest_is ∙ sym c.digest-digest.ensures;
        jobs_are = still.jobs_are ∙ sym (ap (map arc_value) c.deref-4.ensures.value ∙ copied ∙ c.jobs.ensures);
      };
    }

pub returns-clause-full : goal.returns-clause-full
returns-clause-full g c =
    let copied = clones-same arc_value c.jobs.result.now c.in_ok-copies.copies.items c.in_ok-copies.ensures.ok in
    let own = subst (AreJobsOfCertificate c.args.cert.now)
    (sym (ap (map arc_value) c.deref-4.ensures.value ∙ copied ∙ c.jobs.ensures)) c.requires.book.jobs in
    audit_of c.args.cert.now c.digest-digest.result
    (map arc_value c.deref-4.result.now) c.in_ok-audited.audited.state c.fill_and_close.new.state
    (c.digest-digest.ensures ∙ c.requires.book.digest)
    own
    c.in_ok-fill_and_close.ensures.completed

pub returns-clause-closed : goal.returns-clause-closed
returns-clause-closed g c =
    completed_closed c.digest-digest.result
    (map arc_value c.deref-4.result.now) c.in_ok-audited.audited.state c.fill_and_close.new.state
    c.in_ok-fill_and_close.ensures.completed

pub returns-clause-filed : goal.returns-clause-filed
returns-clause-filed g c =
    let full = returns-clause-full g c in
    let many = many_filings c.fill_and_close.new.state c.in_ok-fill_and_close.ensures.replays in
    omega (arith, many, full.all_accepted, full.jobs_are.count)
