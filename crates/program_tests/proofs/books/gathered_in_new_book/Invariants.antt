use Rattle.program_tests.proofs.books.gathered_in_new_book.Given as goal

abbrev pub ghosts-gathered_from_one_share-F-Filings : goal.ghosts-gathered_from_one_share-F-Filings
ghosts-gathered_from_one_share-F-Filings g a = record { digest = a.state.digest; jobs = a.state.jobs }

abbrev pub ghosts-gathered_from_one_share-F-Ledger : goal.ghosts-gathered_from_one_share-F-Ledger
ghosts-gathered_from_one_share-F-Ledger g a = record { name = a.f.name; parts = a.f.parts }

abbrev pub ghosts-gathered_from_one_share-A-Ledger : goal.ghosts-gathered_from_one_share-A-Ledger
ghosts-gathered_from_one_share-A-Ledger g a = record { name = a.a.name; parts = a.a.parts }
