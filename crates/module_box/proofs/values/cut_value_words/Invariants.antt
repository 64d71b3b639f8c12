use Rattle.module_box.proofs.Imports.{bit, length, slice_index_or, ℕ, ◌*◌, ◌+◌, ◌<◌, ◌≡◌}
use Rattle.module_box.proofs.values.cut_value_words.Given as goal

abbrev pub invariant-loop-cut : goal.invariant-loop-cut
invariant-loop-cut l = record {
  count : length l.words.items ≡ l.cut;
  bits : (i : ℕ) → i < l.cut → (b : ℕ) → b < 64 → bit (slice_index_or l.words.items i 0) b ≡ bit (64 * l.chunk + b) i;
}
