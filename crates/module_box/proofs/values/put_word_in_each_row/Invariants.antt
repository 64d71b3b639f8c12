use Rattle.module_box.proofs.LocalRows.{IsPut}
use Rattle.module_box.proofs.values.put_word_in_each_row.Given as goal

abbrev pub invariant-loop-wire : goal.invariant-loop-wire
invariant-loop-wire l = IsPut l.words l.place l.wire l.column l.fn.rows l.rows
