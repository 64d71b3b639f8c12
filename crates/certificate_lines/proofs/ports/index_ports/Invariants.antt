-- The table has the ports so far.
use Rattle.certificate_lines.proofs.TableLemmas.{IsFilling}
use Rattle.certificate_lines.proofs.ports.index_ports.Given as goal

abbrev pub invariant-loop-number : goal.invariant-loop-number
invariant-loop-number l = IsFilling l.area l.ports l.rows.items l.count l.number l.numbers.items
