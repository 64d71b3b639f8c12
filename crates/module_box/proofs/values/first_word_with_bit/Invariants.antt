use Rattle.module_box.proofs.Imports.{bit, false, slice_index, ℕ, ◌<◌, ◌≡◌}
use Rattle.module_box.proofs.values.first_word_with_bit.Given as goal

abbrev pub invariant-loop-number : goal.invariant-loop-number
invariant-loop-number l = (k : ℕ) → k < l.number → bit (slice_index l.words k) l.place ≡ false
