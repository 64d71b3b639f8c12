use Rattle.module_box.proofs.LocalRows.{AreRowsBelow}
use Rattle.module_box.proofs.wiring.Wiring.value_rows.Given as goal

abbrev pub invariant-loop-chunk : goal.invariant-loop-chunk
invariant-loop-chunk l = AreRowsBelow l.self l.words l.chunk l.values.items l.undefined.items l.defined.items
