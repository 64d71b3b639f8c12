-- The meaning of four planes of words: for each cell a bit under each assignment
use Rattle.std.specs.Prelude.{◌≡◌, ◌==◌, if◌then◌else◌, Bool, ℕ, ◌+◌, ◌*◌, ◌/◌, ◌%◌, ◌<◌, ◌≤◌, List, length}
use Rattle.std.specs.Prelude.{slice_index}
use Rattle.bbm_rule.specs.Bits.{bit}
use Rattle.bbm_rule.specs.Plane.{turned}
use Rattle.bbm_rule.specs.Rows.{paired_place}
use Rattle.lanes.specs.declared.blocks.Partition.{Partition}
use Rattle.lanes.specs.declared.blocks.Partition.TheVariants.{Even, Odd}
use Rattle.lanes.specs.declared.planes.Planes.{Planes}
use Rattle.lanes.specs.declared.planes.WordSource.{WordSource}
use Rattle.lanes.specs.declared.planes.WordSource.TheVariants.{Constant, From}

-- how many words a cell has, and how many cells a row and rows a plane
abbrev pub HasWordsStrideRows : ℕ → ℕ → ℕ → Planes → Type 0
HasWordsStrideRows words stride rows p = (p.words ≡ words) × (p.stride ≡ stride) × (p.rows ≡ rows)

-- the plane of a cell, by the parities of its column and row
unfoldable pub plane_of : Planes → ℕ → ℕ → List ℕ
plane_of p x y =
    if x % 2 == 0 then (if y % 2 == 0 then p.odd.items else p.down.items)
    else (if y % 2 == 0 then p.right.items else p.even.items)

-- whether the cell at column x and row y, counted from the halo, is live under assignment a
unfoldable pub lane : Planes → ℕ → ℕ → ℕ → Bool
lane p a x y = bit (slice_index (plane_of p x y) (p.words * (p.stride * (y / 2) + x / 2) + a / 64)) (a % 64)

-- Each cell is turned in its block of the partition. In the even partition these are the cells of the box, if the
-- planes have one more cell on each side
abbrev pub TurnsCellsOfPartition : Partition → Planes → Planes → Type 0
TurnsCellsOfPartition Odd p q = (a x y : ℕ) → a < 64 * p.words → x < 2 * p.stride → y < 2 * p.rows →
    lane q a x y ≡ turned (lane p a x y) (lane p a (paired_place x) (paired_place y)) (lane p a (paired_place x) y)
    (lane p a x (paired_place y))
TurnsCellsOfPartition Even p q = (a x y : ℕ) → a < 64 * p.words → x + 2 < 2 * p.stride → y + 2 < 2 * p.rows →
    lane q a (1 + x) (1 + y) ≡ turned (lane p a (1 + x) (1 + y)) (lane p a (1 + paired_place x) (1 + paired_place y))
    (lane p a (1 + paired_place x) (1 + y)) (lane p a (1 + x) (1 + paired_place y))

-- only the word k of the cell changes
pub record SetsCellWord (x y k word : ℕ) (p q : Planes) : Type 0 where
  pub there : (b : ℕ) → b < 64 → lane q (64 * k + b) x y ≡ bit word b
  pub rest : (a x' y' : ℕ) → a < 64 * p.words → x' / 2 < p.stride → ((x' ≡ x) × (y' ≡ y) × (a / 64 ≡ k) → ⊥) →
      lane q a x' y' ≡ lane p a x' y'

-- the cells of the box do not change, if the planes have one more cell on each side
abbrev pub AreSameInBox : Planes → Planes → Type 0
AreSameInBox p q = (a x y : ℕ) → a < 64 * p.words → x + 2 < 2 * p.stride → y + 2 < 2 * p.rows →
    lane q a (1 + x) (1 + y) ≡ lane p a (1 + x) (1 + y)

-- a list has n words of the source
abbrev pub HasSourceWords : ℕ → List ℕ → WordSource → Type 0
HasSourceWords n list (Constant word) = Unit {0}
HasSourceWords n list (From first) = first + n ≤ length list

-- word k of the source
abbrev pub word_of_source : List ℕ → WordSource → ℕ → ℕ
word_of_source list (Constant word) k = word
word_of_source list (From first) k = slice_index list (first + k)

-- the words of a cell become those of the source, and no other cell changes
pub record SetsCell (x y : ℕ) (list : List ℕ) (source : WordSource) (p q : Planes) : Type 0 where
  pub size : HasWordsStrideRows p.words p.stride p.rows q
  pub there : (k b : ℕ) → k < p.words → b < 64 → lane q (64 * k + b) x y ≡ bit (word_of_source list source k) b
  pub rest : (a x' y' : ℕ) → a < 64 * p.words → x' / 2 < p.stride → ((x' ≡ x) × (y' ≡ y) → ⊥) →
      lane q a x' y' ≡ lane p a x' y'
