-- Which blocks are still known to stay, after cells or marks changed
use Rattle.lanes.proofs.Imports.{AreCellNumbers, AreUnmarkedBlocksStable, BlockMarks, BlockPlaces, Bool}
use Rattle.lanes.proofs.Imports.{ChangesOnlyDiagonals, Even, HasWordsStrideRows, IsAntiDiagonalStable, IsBlockStable}
use Rattle.lanes.proofs.Imports.{IsBlockWordSame, IsMainDiagonalStable, IsNotRowEndBlock, IsSameOutsidePart, List, Odd}
use Rattle.lanes.proofs.Imports.{Partition, Planes, TurnsBlock, ap, arith, block_at, block_number_count, by_eq_or_not}
use Rattle.lanes.proofs.Imports.{by_lt_or_le, common_steps, false, false≢true, get_or, inl, inr, mul-le-mul_left, sym}
use Rattle.lanes.proofs.Imports.{true, ℕ, ◌*◌, ◌+◌, ◌-◌, ◌<◌, ◌≡◌, ◌≢◌, ◌≤◌}
use Rattle.lemmas.proofs.Common.{cases_Bool}
use Rattle.lanes.specs.Calm.{MarksBlocksSharingCell, UnmarksAtMostBlock}
use Rattle.lanes.proofs.TurnLemmas.{anti_words, main_words}

-- ---- the cells of blocks
-- the odd partition is not the even one
abbrev is_odd : Partition → Bool
is_odd Odd = true
is_odd Even = false

pub odd_even : Odd ≡ Even → ⊥
odd_even e = false≢true (sym (ap is_odd e))

-- the planes have the cells of each block
pub cells_of : (part : Partition) (p : Planes) (u : ℕ) → u < block_number_count part p →
    AreCellNumbers (block_at part p.stride u) p
cells_of part p u h1 = grind (arith, common_steps)

-- so they have those of each run of blocks
abbrev pub AreRangeCellNumbers : BlockPlaces → ℕ → Planes → Type 0
AreRangeCellNumbers b n p = (b.odd + n ≤ p.stride * p.rows) × (b.right + n ≤ p.stride * p.rows)
    × (b.down + n ≤ p.stride * p.rows) × (b.even + n ≤ p.stride * p.rows)

pub range_cell_numbers : (part : Partition) (p : Planes) (first end : ℕ) → first < end →
    end ≤ block_number_count part p → AreRangeCellNumbers (block_at part p.stride first) (end - first) p
range_cell_numbers part p first end h1 h2 = grind (arith, common_steps)

pub count_below : (part : Partition) (p : Planes) (u : ℕ) → u < block_number_count part p → u < p.stride * p.rows
count_below Odd p u l = l
count_below Even p u l = omega (arith, l)

pub same_count : (part : Partition) (p q : Planes) → HasWordsStrideRows p.words p.stride p.rows q →
    block_number_count part q ≡ block_number_count part p
same_count part p q h1 = grind (arith, common_steps)

-- other blocks of a partition have other cells
pub record AreApart (b c : BlockPlaces) : Type 0 where
  pub odd : b.odd ≢ c.odd
  pub right : b.right ≢ c.right
  pub down : b.down ≢ c.down
  pub even : b.even ≢ c.even

-- ---- cells that a turned part leaves
pub other_cell : (w c u k : ℕ) (xs ys : List ℕ) → IsSameOutsidePart (w * c) w xs ys → k < w → u ≢ c →
    get_or ys (w * u + k) 0 ≡ get_or xs (w * u + k) 0
other_cell w c u k xs ys same l ne = by_lt_or_le u c
    (λ h. let m : w * (u + 1) ≤ w * c = mul-le-mul_left w (omega arith) in same.below (w * u + k) (omega arith))
    (λ h. let m : w * (c + 1) ≤ w * u = mul-le-mul_left w (omega arith) in same.above (w * u + k) (omega arith))

-- a cell is as it was where it is another, or is on a diagonal that stays
kept_cell : (changes : Bool) (w c v k : ℕ) (xs ys : List ℕ) → IsSameOutsidePart (w * c) w xs ys → k < w →
    (changes ≡ true → v ≢ c) → (changes ≡ false → get_or ys (w * c + k) 0 ≡ get_or xs (w * c + k) 0) →
    get_or ys (w * v + k) 0 ≡ get_or xs (w * v + k) 0
kept_cell changes w c v k xs ys same l other stays = grind (arith, common_steps, by_eq_or_not, cases_Bool, other_cell)

pub block_cells : (main anti : Bool) (b : BlockPlaces) (p q : Planes) → (main ≡ false → IsMainDiagonalStable b p) →
    (anti ≡ false → IsAntiDiagonalStable b p) → TurnsBlock b p q → ChangesOnlyDiagonals main anti b p q
block_cells main anti b p q main_stays anti_stays part = record {
  odd_same = λ v k l ne. kept_cell main p.words b.odd v k p.odd.items q.odd.items part.upper_left l ne
      (λ e. (main_words _ _ _ _ _ _ _ _ (main_stays e k l) (part.turned k l)).0);
  right_same = λ v k l ne. kept_cell anti p.words b.right v k p.right.items q.right.items part.upper_right l ne
      (λ e. (anti_words _ _ _ _ _ _ _ _ (anti_stays e k l) (part.turned k l)).0);
  down_same = λ v k l ne. kept_cell anti p.words b.down v k p.down.items q.down.items part.lower_left l ne
      (λ e. (anti_words _ _ _ _ _ _ _ _ (anti_stays e k l) (part.turned k l)).1);
  even_same = λ v k l ne. kept_cell main p.words b.even v k p.even.items q.even.items part.lower_right l ne
      (λ e. (main_words _ _ _ _ _ _ _ _ (main_stays e k l) (part.turned k l)).1);
}

-- ---- after cells changed
-- the blocks without a mark are not those with a cell that changed
pub still_stable : (main anti : Bool) (b : BlockPlaces) (m m' : BlockMarks) (p q : Planes) →
    HasWordsStrideRows p.words p.stride p.rows q → ChangesOnlyDiagonals main anti b p q →
    MarksBlocksSharingCell main anti p.stride b m m' → AreUnmarkedBlocksStable m p → AreUnmarkedBlocksStable m' q
still_stable main anti b m m' p q size ch marks calm part u is free =
    let count = rw (same_count part p q size) at is.0 in
    let inside = rw size.1 at is.1 in
    let f = marks part u free in
    let c : BlockPlaces = block_at part p.stride u in
    let h = calm part u (count, inside) f.0 in
    let same : (k : ℕ) → k < p.words → IsBlockWordSame p.words c k p q = λ k i. record {
      odd = ch.odd_same c.odd k i (λ e. (f.1.0 e).0);
      right = ch.right_same c.right k i (λ e. (f.1.1 e).0);
      down = ch.down_same c.down k i (λ e. (f.1.1 e).1);
      even = ch.even_same c.even k i (λ e. (f.1.0 e).1);
    } in
    rw (size.0, size.1) (
      λ k i. let e = same k i in rw (e.odd, e.right, e.down, e.even) (h.0 k i),
      λ k i. let e = same k i in rw (e.odd, e.right, e.down, e.even) (h.1 k i),
    )

-- after a mark was taken off a block that stays, or off the last one of a row, of which nothing is known
pub still_stable_unmarked : (part : Partition) (at : ℕ) (m m' : BlockMarks) (p : Planes) →
    UnmarksAtMostBlock part at m m' →
    (IsNotRowEndBlock part p.stride at → IsBlockStable (block_at part p.stride at) p) → AreUnmarkedBlocksStable m p →
    AreUnmarkedBlocksStable m' p
still_stable_unmarked part at m m' p unmarks block calm other u is free = elim (unmarks other u free) [
  | inl old ↦ calm other u is old
  | inr e ↦
      let inside = rw (e.0, e.1) at is.1 in
      rw (e.0, e.1) (block inside)
]
