-- A plane of bits in words, for this crate's own functions: the cell at place p is bit p % 64 of word p / 64
use Rattle.std.specs.Prelude.{◌≡◌, ◌==◌, ◌&&◌, Bool, true, false, if◌then◌else◌, ℕ, ◌+◌, ◌-◌, ◌*◌, ◌/◌, ◌%◌, ◌<◌, ◌≤◌}
use Rattle.std.specs.Prelude.{List, slice_index, ◌≢◌, nat_le, ℤ, pos, negsuc, bit_xor, set, ◌^◌}
use Rattle.bbm_rule.specs.Plane.{turned}
use Rattle.bbm_rule.specs.Bits.{bit}

-- whether the cell at place p is live
unfoldable pub cell_at : List ℕ → ℕ → Bool
cell_at words p = bit (slice_index words (p / 64)) (p % 64)

-- the other place of a pair: 0 and 1, 2 and 3, and so on
unfoldable pub paired_place : ℕ → ℕ
paired_place j = if j % 2 == 0 then j + 1 else j - 1

-- A bit of f is a block, whose upper cells are that bit of a and n, and its lower ones that of b and m. It turns if the
-- cells of a and m flip where main has a bit, and those of n and b where anti has one.
pub record AreFlipBitsForTurn (f a n b m main anti : ℕ) : Type 0 where
  pub upper_first : (j : ℕ) → bit f j ≡ true →
      bit (bit_xor a main) j ≡ turned (bit a j) (bit m j) (bit n j) (bit b j)
  pub upper_second : (j : ℕ) → bit f j ≡ true →
      bit (bit_xor n anti) j ≡ turned (bit n j) (bit b j) (bit a j) (bit m j)
  pub lower_first : (j : ℕ) → bit f j ≡ true →
      bit (bit_xor b anti) j ≡ turned (bit b j) (bit n j) (bit m j) (bit a j)
  pub lower_second : (j : ℕ) → bit f j ≡ true →
      bit (bit_xor m main) j ≡ turned (bit m j) (bit a j) (bit b j) (bit n j)
  pub elsewhere : (j : ℕ) → bit f j ≡ false → (bit main j ≡ false) × (bit anti j ≡ false)

-- two words one above the other, before and after each of their 32 blocks is turned
pub record IsWordPairTurned (a b a' b' : ℕ) : Type 0 where
  pub upper : (j : ℕ) → j < 64 → bit a' j ≡ turned (bit a j) (bit b (paired_place j)) (bit a (paired_place j)) (bit b j)
  pub lower : (j : ℕ) → j < 64 → bit b' j ≡ turned (bit b j) (bit a (paired_place j)) (bit b (paired_place j)) (bit a j)

-- the 64 cells from place p on are the bits of v
pub record HasWordAt (words : List ℕ) (p v : ℕ) : Type 0 where
  pub cells : (j : ℕ) → j < 64 → bit v j ≡ cell_at words (p + j)

-- only the 64 cells from place p on change, to the bits of v
pub record SetsWordAt (p v : ℕ) (old new : List ℕ) : Type 0 where
  pub cells : (j : ℕ) → j < 64 → cell_at new (p + j) ≡ bit v j
  pub before : (q : ℕ) → q < p → cell_at new q ≡ cell_at old q
  pub after : (q : ℕ) → p + 64 ≤ q → cell_at new q ≡ cell_at old q

-- the bits of word i flip where f has a bit
abbrev pub flip : ℕ → ℕ → List ℕ → List ℕ
flip i f words = set words i (bit_xor (slice_index words i) f)

-- the first bits of word i and of the word s words behind it flip where anti and main have their last bit
abbrev pub flip_carried_bits : ℕ → ℕ → ℕ → ℕ → List ℕ → List ℕ
flip_carried_bits i s main anti words = flip (i + s) (main / 2 ^ 63) (flip i (anti / 2 ^ 63) words)

-- The blocks of the n cells from place p on and the n cells a row of s cells below are turned, and no other cell
-- changes.
pub record TurnsRowPart (p n s : ℕ) (old new : List ℕ) : Type 0 where
  pub upper : (j : ℕ) → j < n →
      cell_at new (p + j) ≡ turned (cell_at old (p + j)) (cell_at old (p + s + paired_place j))
      (cell_at old (p + paired_place j))
      (cell_at old (p + s + j))
  pub lower : (j : ℕ) → j < n →
      cell_at new (p + s + j) ≡ turned (cell_at old (p + s + j)) (cell_at old (p + paired_place j))
      (cell_at old (p + s + paired_place j)) (cell_at old (p + j))
  pub before : (q : ℕ) → q < p → cell_at new q ≡ cell_at old q
  pub between : (q : ℕ) → p + n ≤ q → q < p + s → cell_at new q ≡ cell_at old q
  pub after : (q : ℕ) → p + s + n ≤ q → cell_at new q ≡ cell_at old q

-- The blocks of r pairs of rows of s cells are turned, the first at place p, and no other cell changes.
pub record TurnsRows (p s r : ℕ) (old new : List ℕ) : Type 0 where
  pub upper : (i j : ℕ) → i < r → j < s → let q = p + 2 * (i * s) in
      cell_at new (q + j) ≡ turned (cell_at old (q + j)) (cell_at old (q + s + paired_place j))
      (cell_at old (q + paired_place j))
      (cell_at old (q + s + j))
  pub lower : (i j : ℕ) → i < r → j < s → let q = p + 2 * (i * s) in
      cell_at new (q + s + j) ≡ turned (cell_at old (q + s + j)) (cell_at old (q + paired_place j))
      (cell_at old (q + s + paired_place j)) (cell_at old (q + j))
  pub before : (q : ℕ) → q < p → cell_at new q ≡ cell_at old q
  pub after : (q : ℕ) → p + 2 * (r * s) ≤ q → cell_at new q ≡ cell_at old q

-- no cell changes
abbrev pub AreSameCells : List ℕ → List ℕ → Type 0
AreSameCells old new = (q : ℕ) → cell_at new q ≡ cell_at old q

-- only the cell at place p changes, to the value
pub record SetsCellAtPlace (p : ℕ) (value : Bool) (old new : List ℕ) : Type 0 where
  pub there : cell_at new p ≡ value
  pub elsewhere : (q : ℕ) → q ≢ p → cell_at new q ≡ cell_at old q

-- only the n cells from place p on change, and are live then
pub record FillsRowPart (p n : ℕ) (old new : List ℕ) : Type 0 where
  pub there : (q : ℕ) → p ≤ q → q < p + n → cell_at new q ≡ true
  pub before : (q : ℕ) → q < p → cell_at new q ≡ cell_at old q
  pub after : (q : ℕ) → p + n ≤ q → cell_at new q ≡ cell_at old q

-- the place of the cell at (x, y) in rows of s cells, with a margin of one cell
abbrev pub place_with_margin : ℕ → ℤ → ℤ → ℕ
place_with_margin s (pos x) (pos y) = s * (y + 1) + (x + 1)
place_with_margin s (pos x) (negsuc y) = 0
place_with_margin s (negsuc x) y = 0

-- whether a place of the rows is a cell of the board, and not of the margin
abbrev pub is_board_cell : ℕ → ℕ → ℕ → ℕ → Bool
is_board_cell w h x y = nat_le 1 x && nat_le x w && nat_le 1 y && nat_le y h

-- some cell of the margin of one cell is live
pub record HasLiveMargin (w h s : ℕ) (words : List ℕ) : Type 0 where
  pub x : ℕ
  pub y : ℕ
  pub column : x < w + 2
  pub row : y < h + 2
  pub outer : is_board_cell w h x y ≡ false
  pub lives : cell_at words (s * y + x) ≡ true

-- no cell of it is
abbrev pub HasDeadMargin : ℕ → ℕ → ℕ → List ℕ → Type 0
HasDeadMargin w h s words = (x y : ℕ) → x < w + 2 → y < h + 2 → is_board_cell w h x y ≡ false →
    cell_at words (s * y + x) ≡ false

-- none of it in row y is
abbrev pub HasDeadMarginInRow : ℕ → ℕ → ℕ → ℕ → List ℕ → Type 0
HasDeadMarginInRow w h s y words =
    (x : ℕ) → x < w + 2 → is_board_cell w h x y ≡ false → cell_at words (s * y + x) ≡ false
