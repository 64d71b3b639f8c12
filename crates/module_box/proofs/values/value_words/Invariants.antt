use Rattle.module_box.proofs.WordRows.{AreInColumn}
use Rattle.module_box.proofs.values.value_words.Given as goal

abbrev pub invariant-loop-gate : goal.invariant-loop-gate
invariant-loop-gate l = AreInColumn l.fn.given l.gates l.gate-index l.words.items l.undefined.items l.defined
