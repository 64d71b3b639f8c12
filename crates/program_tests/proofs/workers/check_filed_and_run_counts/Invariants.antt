use Rattle.program_tests.proofs.workers.check_filed_and_run_counts.Given as goal

abbrev pub ghosts-file_by_workers-F-Filings : goal.ghosts-file_by_workers-F-Filings
ghosts-file_by_workers-F-Filings g a = record { digest = a.state.digest; jobs = a.state.jobs }

abbrev pub ghosts-file_by_workers-F-Ledger : goal.ghosts-file_by_workers-F-Ledger
ghosts-file_by_workers-F-Ledger g a = record { name = a.f.name; parts = a.f.parts }

abbrev pub ghosts-file_by_workers-A-Ledger : goal.ghosts-file_by_workers-A-Ledger
ghosts-file_by_workers-A-Ledger g a = record { name = a.a.name; parts = a.a.parts }
