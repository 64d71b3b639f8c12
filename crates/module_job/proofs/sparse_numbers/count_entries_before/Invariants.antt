-- The entries below `low` are of places before this one, and those from `high` on are not.
use Rattle.module_job.proofs.Imports.{List, length, sparse_entries_from, ℕ, ◌*◌, ◌-◌, ◌≡◌, ◌≤◌}
use Rattle.module_job.proofs.SparseLists.{rank}
use Rattle.module_job.proofs.sparse_numbers.count_entries_before.Given as goal

abbrev pub invariant-loop-low : goal.invariant-loop-low
invariant-loop-low l = record {
  order : l.low ≤ l.high;
  bound : 2 * l.high ≤ length l.entries;
  around : (numbers : List ℕ) → l.entries ≡ sparse_entries_from 0 numbers →
      (2 * l.low ≤ rank l.place numbers) × (rank l.place numbers ≤ 2 * l.high);
}

abbrev pub decreases-loop-low : goal.decreases-loop-low
decreases-loop-low l = l.high - l.low
