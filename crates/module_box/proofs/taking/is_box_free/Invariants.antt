use Rattle.module_box.proofs.Imports.{HasBlockAtPlace, slice_index, ℕ, ◌*◌, ◌<◌, ◌≡◌}
use Rattle.module_box.proofs.taking.is_box_free.Given as goal

abbrev pub invariant-loop-row : goal.invariant-loop-row
invariant-loop-row l = (k : ℕ) → k < l.row * l.columns → HasBlockAtPlace l.fn.area l.columns k →
    slice_index l.table k ≡ l.free
