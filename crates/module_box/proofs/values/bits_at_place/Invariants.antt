use Rattle.module_box.proofs.Imports.{lane, take, ◌≡◌}
use Rattle.module_box.proofs.values.bits_at_place.Given as goal

abbrev pub invariant-loop-word : goal.invariant-loop-word
invariant-loop-word l = l.bits.items ≡ lane l.place (take l.word-index l.words)
