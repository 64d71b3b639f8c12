use Rattle.program_tests.proofs.books.gathered_from_four_threads.Given as goal

abbrev pub ghosts-gathered_after_all_file-F-Filings : goal.ghosts-gathered_after_all_file-F-Filings
ghosts-gathered_after_all_file-F-Filings g a = record { digest = a.state.digest; jobs = a.state.jobs }

abbrev pub ghosts-gathered_after_all_file-F-Ledger : goal.ghosts-gathered_after_all_file-F-Ledger
ghosts-gathered_after_all_file-F-Ledger g a = record { name = a.f.name; parts = a.f.parts }

abbrev pub ghosts-gathered_after_all_file-A-Ledger : goal.ghosts-gathered_after_all_file-A-Ledger
ghosts-gathered_after_all_file-A-Ledger g a = record { name = a.a.name; parts = a.a.parts }
