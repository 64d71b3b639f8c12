use Rattle.core_book.proofs.HeldJobs.{AreFaultsBelow}
use Rattle.audit_core.proofs.concluding.faults_in_full_book.Given as goal

-- the jobs before this one have a finding, and these are their least faults
abbrev pub invariant-loop-number : goal.invariant-loop-number
invariant-loop-number l = AreFaultsBelow l.book l.book.jobs l.number l.faults.items
