-- Each ledger is its blank's, and the book is of the state that it begins with.
use Rattle.check_main.proofs.auditing.audit_new_book.Given as goal

abbrev pub ghosts-work_on_new_book-F-Filings : goal.ghosts-work_on_new_book-F-Filings
ghosts-work_on_new_book-F-Filings g a = record { digest = a.unopened.state.digest; jobs = a.unopened.state.jobs }

abbrev pub ghosts-work_on_new_book-F-Ledger : goal.ghosts-work_on_new_book-F-Ledger
ghosts-work_on_new_book-F-Ledger g a = record { name = a.unopened.filings.name; parts = a.unopened.filings.parts }

abbrev pub ghosts-work_on_new_book-A-Ledger : goal.ghosts-work_on_new_book-A-Ledger
ghosts-work_on_new_book-A-Ledger g a =
    record { name = a.unopened.acceptances.name; parts = a.unopened.acceptances.parts }
