use Rattle.check_main.proofs.Closings.{new_book_of}
use Rattle.check_main.proofs.auditing.audit.Goals as goal

pub audit_new_book-requires-clause-book : goal.audit_new_book-requires-clause-book
audit_new_book-requires-clause-book g c κs within =
    new_book_of c.args.cert.now c.in_ok-state.state _ _ c.in_ok-state.ensures c.in_ok-digest.ensures
    c.in_ok-jobs.ensures
