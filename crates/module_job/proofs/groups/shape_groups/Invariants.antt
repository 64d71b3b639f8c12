-- Those before have their groups.
use Rattle.module_job.proofs.Imports.{IsFirstEqualElement, arc_value, length, map, slice_index, ℕ, ◌<◌, ◌≡◌}
use Rattle.module_job.proofs.groups.shape_groups.Given as goal

abbrev pub invariant-loop-number : goal.invariant-loop-number
invariant-loop-number l = record {
  count : length l.groups.items ≡ l.number;
  each : (k : ℕ) → k < l.number → IsFirstEqualElement (map arc_value l.shapes) k (slice_index l.groups.items k);
}
