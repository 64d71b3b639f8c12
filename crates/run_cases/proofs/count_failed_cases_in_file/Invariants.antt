-- At most every case so far has failed.
use Rattle.lemmas.proofs.Common.{◌≤◌}
use Rattle.run_cases.proofs.count_failed_cases_in_file.Given as goal

abbrev pub invariant-loop-case : goal.invariant-loop-case
invariant-loop-case g l = l.failed ≤ l.case-index
