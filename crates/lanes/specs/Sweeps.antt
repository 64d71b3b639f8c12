-- Blocks of a partition that are turned, by their numbers
use Rattle.std.specs.Prelude.{◌≡◌, false, ℕ, ◌+◌, ◌*◌, ◌%◌, ◌<◌, ◌≤◌, slice_index}
use Rattle.bbm_rule.specs.Bits.{bit}
use Rattle.bbm_rule.specs.Words.{AreCornerWordsTurned}
use Rattle.lanes.specs.Blocks.{IsNotRowEndBlock, block_at}
use Rattle.lanes.specs.declared.blocks.BlockPlaces.{BlockPlaces}
use Rattle.lanes.specs.declared.blocks.Partition.{Partition}
use Rattle.lanes.specs.declared.planes.Planes.{Planes}

-- word k of each cell of a block is turned, where a cell has w words
abbrev pub IsBlockWordTurned : ℕ → BlockPlaces → ℕ → Planes → Planes → Type 0
IsBlockWordTurned w b k p q =
    AreCornerWordsTurned (slice_index p.odd.items (w * b.odd + k)) (slice_index p.right.items (w * b.right + k))
    (slice_index p.down.items (w * b.down + k)) (slice_index p.even.items (w * b.even + k))
    (slice_index q.odd.items (w * b.odd + k)) (slice_index q.right.items (w * b.right + k))
    (slice_index q.down.items (w * b.down + k)) (slice_index q.even.items (w * b.even + k))

-- word k of each cell of a block stays
pub record IsBlockWordSame (w : ℕ) (b : BlockPlaces) (k : ℕ) (p q : Planes) : Type 0 where
  pub odd : slice_index q.odd.items (w * b.odd + k) ≡ slice_index p.odd.items (w * b.odd + k)
  pub right : slice_index q.right.items (w * b.right + k) ≡ slice_index p.right.items (w * b.right + k)
  pub down : slice_index q.down.items (w * b.down + k) ≡ slice_index p.down.items (w * b.down + k)
  pub even : slice_index q.even.items (w * b.even + k) ≡ slice_index p.even.items (w * b.even + k)

-- the named blocks of a partition are turned, and no cell of another block has changed
pub record TurnsOnlyNamedBlocks (w s : ℕ) (part : Partition) (IsNamed : ℕ → Type 0) (p q : Planes) : Type 0 where
  pub turned : (n k : ℕ) → IsNamed n → k < w → IsBlockWordTurned w (block_at part s n) k p q
  pub same : (n k : ℕ) → (IsNamed n → ⊥) → k < w → IsBlockWordSame w (block_at part s n) k p q

-- so they are in planes whose cells have their words, and whose rows their cells
abbrev pub TurnsBlocksSatisfying : Partition → (ℕ → Type 0) → Planes → Planes → Type 0
TurnsBlocksSatisfying part IsNamed p q = TurnsOnlyNamedBlocks p.words p.stride part IsNamed p q

-- the blocks from one number to another are turned, but for the last ones of the rows, which are not in the box
abbrev pub TurnsNumberedBlocksBetween : Partition → ℕ → ℕ → Planes → Planes → Type 0
TurnsNumberedBlocksBetween part from end p q =
    TurnsBlocksSatisfying part (λ n. (from ≤ n) × (n < end) × IsNotRowEndBlock part p.stride n) p q

-- the numbers from one to another whose marks, in one word, are not among the rest of that word
abbrev pub IsInRangeNotInWordRest : ℕ → ℕ → ℕ → ℕ → Type 0
IsInRangeNotInWordRest first end rest n = (first ≤ n) × (n < end) × (bit rest (n % 64) ≡ false)

-- the same, but for the last blocks of the rows
abbrev pub IsPassedBlock : Partition → ℕ → ℕ → ℕ → ℕ → ℕ → Type 0
IsPassedBlock part s first end rest n = IsInRangeNotInWordRest first end rest n × IsNotRowEndBlock part s n
