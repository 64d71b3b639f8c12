-- The rows of the ports so far have their numbers.
use Rattle.certificate_lines.proofs.RowLemmas.{AreRowsSoFar}
use Rattle.certificate_lines.proofs.ports.number_rows.Given as goal

abbrev pub invariant-loop-number : goal.invariant-loop-number
invariant-loop-number l = AreRowsSoFar l.area l.ports l.number l.rows.items l.count
