use Rattle.program_tests.proofs.floods.gathered_own_book_after_flood.Given as goal

abbrev pub ghosts-gathered_after_flood-F-Filings : goal.ghosts-gathered_after_flood-F-Filings
ghosts-gathered_after_flood-F-Filings g a = record { digest = a.state.digest; jobs = a.state.jobs }

abbrev pub ghosts-gathered_after_flood-F-Ledger : goal.ghosts-gathered_after_flood-F-Ledger
ghosts-gathered_after_flood-F-Ledger g a = record { name = a.f.name; parts = a.f.parts }

abbrev pub ghosts-gathered_after_flood-A-Ledger : goal.ghosts-gathered_after_flood-A-Ledger
ghosts-gathered_after_flood-A-Ledger g a = record { name = a.a.name; parts = a.a.parts }
