use Rattle.module_box.proofs.Imports.{TakesRow}
use Rattle.module_box.proofs.taking.fill_row_until_taken.Given as goal

abbrev pub invariant-loop-place : goal.invariant-loop-place
invariant-loop-place l = TakesRow l.free l.number l.from l.place l.place l.initial.table l.table
