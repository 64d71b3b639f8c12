use Rattle.module_box.proofs.Imports.{slice_index, ℕ, ◌<◌, ◌≡◌, ◌≤◌}
use Rattle.module_box.proofs.taking.is_row_free.Given as goal

abbrev pub invariant-loop-index : goal.invariant-loop-index
invariant-loop-index l = (k : ℕ) → l.from ≤ k → k < l.index → slice_index l.table k ≡ l.free
