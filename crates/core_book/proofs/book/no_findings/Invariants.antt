use Rattle.core_book.proofs.Imports.{None, replicate, ◌≡◌}
use Rattle.core_book.proofs.book.no_findings.Given as goal

abbrev pub invariant-loop-place : goal.invariant-loop-place
invariant-loop-place l = l.found.items ≡ replicate l._place None
