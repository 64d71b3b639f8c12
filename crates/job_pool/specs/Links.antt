-- The members of groups, each linked to the next one
use Rattle.std.specs.Prelude.{◌≡◌, ◌≢◌, ℕ, ◌+◌, ◌<◌, ◌≤◌, List, length, slice_index}

-- n is the least number of this group that is at least `from`, or the count of all if there is none
pub record IsNextOfGroup (groups : List ℕ) (group from n : ℕ) : Type 0 where
  pub low : from ≤ n
  pub high : n ≤ length groups
  pub own : n < length groups → slice_index groups n ≡ group
  pub skips : (k : ℕ) → from ≤ k → k < n → slice_index groups k ≢ group

-- for each number the next one of its group
pub record AreGroupLinks (groups links : List ℕ) : Type 0 where
  pub count : length links ≡ length groups
  pub each : (i : ℕ) → i < length groups → IsNextOfGroup groups (slice_index groups i) (i + 1) (slice_index links i)
