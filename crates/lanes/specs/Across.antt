-- Blocks whose cells have places that are apart by a fixed number of words.
use Rattle.std.specs.Prelude.{ℕ, ◌+◌, ◌<◌, List, length, slice_index}
use Rattle.bbm_rule.specs.Words.{AreCornerWordsTurned}

-- The blocks of words are turned. A block has its upper left corner at a place of the first list, and its upper right
-- one after `across` in the second. Its lower left one is after `below` in the third, and its lower right one after
-- both in the fourth.
pub record TurnsBlocksAcrossLists (across below : ℕ) (ul ur ll lr ul' ur' ll' lr' : List ℕ) : Type 0 where
  pub turned : (k : ℕ) → k + below + across < length ul →
      AreCornerWordsTurned (slice_index ul k) (slice_index ur (k + across)) (slice_index ll (k + below))
      (slice_index lr (k + below + across)) (slice_index ul' k) (slice_index ur' (k + across))
      (slice_index ll' (k + below)) (slice_index lr' (k + below + across))
