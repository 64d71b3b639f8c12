-- Blocks that a turn leaves as they are, and blocks that are turned
use Rattle.std.specs.Prelude.{◌≡◌, ◌==◌, Bool, ℕ, ◌+◌, ◌*◌, ◌%◌, ◌<◌, ◌≤◌, List, slice_index}
use Rattle.bbm_rule.specs.Bits.{bit}
use Rattle.bbm_rule.specs.Plane.{turned}
use Rattle.bbm_rule.specs.Words.{AreCornerWordsTurned}
use Rattle.lanes.specs.declared.blocks.BlockPlaces.{BlockPlaces}
use Rattle.lanes.specs.declared.blocks.Diagonal.{Diagonal}
use Rattle.lanes.specs.declared.blocks.Diagonal.TheVariants.{Anti, Main}
use Rattle.lanes.specs.declared.planes.Planes.{Planes}

-- whether a cell, counted from the halo, is on the main diagonal of its block of the odd partition
abbrev pub is_on_main_diagonal : ℕ → ℕ → Bool
is_on_main_diagonal x y = x % 2 == y % 2

-- A block has two diagonals: its upper left and lower right cells, and the other two. For the first cells of a diagonal
-- and their others, then those of the other diagonal: under no assignment does a turn change a cell of the diagonal
abbrev pub IsDiagonalStable : ℕ → ℕ → ℕ → ℕ → Type 0
IsDiagonalStable first last a b =
    (j : ℕ) → (turned (bit first j) (bit last j) (bit a j) (bit b j) ≡ bit first j)
    × (turned (bit last j) (bit first j) (bit b j) (bit a j) ≡ bit last j)

-- the main diagonal of a block of four planes stays
abbrev pub IsMainDiagonalStable : BlockPlaces → Planes → Type 0
IsMainDiagonalStable b p = (k : ℕ) → k < p.words →
    IsDiagonalStable (slice_index p.odd.items (p.words * b.odd + k)) (slice_index p.even.items (p.words * b.even + k))
    (slice_index p.right.items (p.words * b.right + k)) (slice_index p.down.items (p.words * b.down + k))

-- so does the other one
abbrev pub IsAntiDiagonalStable : BlockPlaces → Planes → Type 0
IsAntiDiagonalStable b p = (k : ℕ) → k < p.words →
    IsDiagonalStable (slice_index p.right.items (p.words * b.right + k))
    (slice_index p.down.items (p.words * b.down + k))
    (slice_index p.odd.items (p.words * b.odd + k)) (slice_index p.even.items (p.words * b.even + k))

-- and so does the block
abbrev pub IsBlockStable : BlockPlaces → Planes → Type 0
IsBlockStable b p = IsMainDiagonalStable b p × IsAntiDiagonalStable b p

-- the words from place a on, as many as `long`, may change, and no others
pub record IsSameOutsidePart (a long : ℕ) (old new : List ℕ) : Type 0 where
  pub below : (n : ℕ) → n < a → slice_index new n ≡ slice_index old n
  pub above : (n : ℕ) → a + long ≤ n → slice_index new n ≡ slice_index old n

-- the words from place a on in one list and those from place b on in another, as many as `long`, change places, and no
-- others change
pub record SwapsPart (a b long : ℕ) (xs ys xs' ys' : List ℕ) : Type 0 where
  pub first : (k : ℕ) → k < long → slice_index xs' (a + k) ≡ slice_index ys (b + k)
  pub second : (k : ℕ) → k < long → slice_index ys' (b + k) ≡ slice_index xs (a + k)
  pub first_beside : IsSameOutsidePart a long xs xs'
  pub second_beside : IsSameOutsidePart b long ys ys'

-- the words of four lists, as many as `long` from a place on in each, are the corners of blocks that are turned, and no
-- others change
pub record TurnsPart (a b c d long : ℕ) (ul ur ll lr ul' ur' ll' lr' : List ℕ) : Type 0 where
  pub turned : (k : ℕ) → k < long →
      AreCornerWordsTurned (slice_index ul (a + k)) (slice_index ur (b + k)) (slice_index ll (c + k))
      (slice_index lr (d + k))
      (slice_index ul' (a + k)) (slice_index ur' (b + k)) (slice_index ll' (c + k)) (slice_index lr' (d + k))
  pub upper_left : IsSameOutsidePart a long ul ul'
  pub upper_right : IsSameOutsidePart b long ur ur'
  pub lower_left : IsSameOutsidePart c long ll ll'
  pub lower_right : IsSameOutsidePart d long lr lr'

-- the words of four planes, as many as `long` from those of the cells of a block on, are turned
abbrev pub TurnsWordsFrom : BlockPlaces → ℕ → Planes → Planes → Type 0
TurnsWordsFrom b long p q =
    TurnsPart (p.words * b.odd) (p.words * b.right) (p.words * b.down) (p.words * b.even) long p.odd.items p.right.items
    p.down.items p.even.items q.odd.items q.right.items q.down.items q.even.items

-- one block of four planes is turned
abbrev pub TurnsBlock : BlockPlaces → Planes → Planes → Type 0
TurnsBlock b p q = TurnsWordsFrom b p.words p q

-- the cells of a diagonal change places
abbrev pub SwapsDiagonal : Diagonal → BlockPlaces → Planes → Planes → Type 0
SwapsDiagonal Main b p q =
    SwapsPart (p.words * b.odd) (p.words * b.even) p.words p.odd.items p.even.items q.odd.items q.even.items
    × (q.right ≡ p.right) × (q.down ≡ p.down)
SwapsDiagonal Anti b p q =
    SwapsPart (p.words * b.right) (p.words * b.down) p.words p.right.items p.down.items q.right.items q.down.items
    × (q.odd ≡ p.odd) × (q.even ≡ p.even)
