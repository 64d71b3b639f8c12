-- The block rule on the bits of numbers.
use Rattle.std.specs.Prelude.{◌≡◌, ℕ, ◌+◌, ◌*◌, ◌<◌, ◌≤◌, List, slice_index}
use Rattle.bbm_rule.specs.Plane.{turned, one_if}
use Rattle.bbm_rule.specs.Bits.{bit}

-- A block as a number: bit 0 is its upper left cell, bit 1 upper right, bit 2 lower left, bit 3 lower right. This is
-- what the block becomes
unfoldable pub turned_block_number : ℕ → ℕ
turned_block_number n =
    let ul = bit n 0 in
    let ur = bit n 1 in
    let ll = bit n 2 in
    let lr = bit n 3 in
    one_if (turned ul lr ur ll)
    + 2 * one_if (turned ur ll ul lr)
    + 4 * one_if (turned ll ur lr ul)
    + 8 * one_if (turned lr ul ll ur)

-- The bits at one place of four words are a block: that of ul is its upper left cell, of ur upper right, of ll lower
-- left, of lr lower right. At each place the four new words, with a mark, have what the block becomes
pub record AreCornerWordsTurned (ul ur ll lr ul' ur' ll' lr' : ℕ) : Type 0 where
  pub upper_left : (j : ℕ) → bit ul' j ≡ turned (bit ul j) (bit lr j) (bit ur j) (bit ll j)
  pub upper_right : (j : ℕ) → bit ur' j ≡ turned (bit ur j) (bit ll j) (bit ul j) (bit lr j)
  pub lower_left : (j : ℕ) → bit ll' j ≡ turned (bit ll j) (bit ur j) (bit lr j) (bit ul j)
  pub lower_right : (j : ℕ) → bit lr' j ≡ turned (bit lr j) (bit ul j) (bit ll j) (bit ur j)

-- the words at place k of four lists are the corners of 64 blocks, and become those of the turned blocks
abbrev pub AreCornerWordsTurnedAt : ℕ → List ℕ → List ℕ → List ℕ → List ℕ → List ℕ → List ℕ → List ℕ → List ℕ → Type 0
AreCornerWordsTurnedAt k ul ur ll lr ul' ur' ll' lr' =
    AreCornerWordsTurned (slice_index ul k) (slice_index ur k) (slice_index ll k) (slice_index lr k) (slice_index ul' k)
    (slice_index ur' k) (slice_index ll' k) (slice_index lr' k)

-- the words at place k are as before (for this crate's own functions, as is what follows)
pub record AreWordsUnchangedAt (k : ℕ) (ul ur ll lr ul' ur' ll' lr' : List ℕ) : Type 0 where
  pub upper_left : slice_index ul' k ≡ slice_index ul k
  pub upper_right : slice_index ur' k ≡ slice_index ur k
  pub lower_left : slice_index ll' k ≡ slice_index ll k
  pub lower_right : slice_index lr' k ≡ slice_index lr k

-- at each place from low up to high the words are turned, and elsewhere they are as before
pub record TurnsCornerWordsBetween (low high : ℕ) (ul ur ll lr ul' ur' ll' lr' : List ℕ) : Type 0 where
  pub inside : (k : ℕ) → low ≤ k → k < high → AreCornerWordsTurnedAt k ul ur ll lr ul' ur' ll' lr'
  pub below : (k : ℕ) → k < low → AreWordsUnchangedAt k ul ur ll lr ul' ur' ll' lr'
  pub above : (k : ℕ) → high ≤ k → AreWordsUnchangedAt k ul ur ll lr ul' ur' ll' lr'
