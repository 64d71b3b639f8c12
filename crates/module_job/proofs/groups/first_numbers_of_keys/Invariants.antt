-- Those before have their groups, and the map has the first number of each key so far.
use Rattle.module_job.proofs.Imports.{IsFirstEqualElement, List, get, length, same_key, slice_index, ℕ, ◌<◌, ◌≡◌}
use Rattle.module_job.proofs.FirstKeys.{IsFirstOf}
use Rattle.module_job.proofs.groups.first_numbers_of_keys.Given as goal

abbrev pub invariant-loop-number : goal.invariant-loop-number
invariant-loop-number l = record {
  count : length l.groups.items ≡ l.number;
  each : (k : ℕ) → k < l.number → IsFirstEqualElement l.keys k (slice_index l.groups.items k);
  known : (key : List ℕ) → IsFirstOf l.keys l.number key (get same_key l.firsts key);
}
