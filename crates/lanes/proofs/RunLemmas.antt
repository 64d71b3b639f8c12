-- Steps that turn runs of blocks, and pass over the blocks between them
use Rattle.lanes.proofs.Imports.{AreCornerWordsTurned, AreMarkedBlocksStable, BlockPlaces, Even, HasWordsStrideRows}
use Rattle.lanes.proofs.Imports.{IsNotRowEndBlock, IsSameOutsidePart, KeepsCellsOutsideBlocks, List, Odd, Partition}
use Rattle.lanes.proofs.Imports.{Planes, TurnsNumberedBlocksBetween, arith, block_at, block_number_count, by_lt_or_le}
use Rattle.lanes.proofs.Imports.{cell_at, common_steps, get_or, inl, inr, mul-le-mul_left, true, ℕ, ◌*◌, ◌+◌, ◌-◌, ◌<◌}
use Rattle.lanes.proofs.Imports.{◌≡◌, ◌≤◌}
use Rattle.lanes.specs.Turns.{TurnsWordsFrom}
use Rattle.lanes.proofs.FieldLemmas.{named_join, named_stay}
use Rattle.lemmas.proofs.Common.{place_within}

-- ---- the words of a run of cells
below_end : (w m len k : ℕ) → m < len → k < w → w * m + k < w * len
below_end w m len k l h = let e : w * (m + 1) ≤ w * len = mul-le-mul_left w (omega arith) in omega arith

beside_run : (w first len n k : ℕ) (xs ys : List ℕ) → IsSameOutsidePart (w * first) (w * len) xs ys → k < w →
    (first ≤ n → n < first + len → ⊥) → get_or ys (w * n + k) 0 ≡ get_or xs (w * n + k) 0
beside_run w first len n k xs ys same l out = by_lt_or_le n first
    (λ h. let m : w * (n + 1) ≤ w * first = mul-le-mul_left w (omega arith) in same.below (w * n + k) (omega arith))
    (λ g. by_lt_or_le n (first + len) (λ h. absurd (out g h))
    (λ h. let m : w * (first + len) ≤ w * n = mul-le-mul_left w h in same.above (w * n + k) (omega arith)))

-- words by other places that are the same
placed : (ul ur ll lr ul' ur' ll' lr' : List ℕ) (a b c d a' b' c' d' : ℕ) → a ≡ a' → b ≡ b' → c ≡ c' → d ≡ d' →
    AreCornerWordsTurned (get_or ul a 0) (get_or ur b 0) (get_or ll c 0) (get_or lr d 0) (get_or ul' a 0)
    (get_or ur' b 0) (get_or ll' c 0) (get_or lr' d 0) →
    AreCornerWordsTurned (get_or ul a' 0) (get_or ur b' 0) (get_or ll c' 0) (get_or lr d' 0) (get_or ul' a' 0)
    (get_or ur' b' 0) (get_or ll' c' 0) (get_or lr' d' 0)
placed ul ur ll lr ul' ur' ll' lr' a b c d a' b' c' d' ea eb ec ed t = rw (ea, eb, ec, ed) at t

-- ---- the blocks of a partition
-- the cells of a block are as far on in their planes, from those of the first block, as its number is
record IsFurther (n : ℕ) (b c : BlockPlaces) : Type 0 where
  odd : b.odd ≡ c.odd + n
  right : b.right ≡ c.right + n
  down : b.down ≡ c.down + n
  even : b.even ≡ c.even + n

further : (part : Partition) (s n : ℕ) → IsFurther n (block_at part s n) (block_at part s 0)
further Odd s n = record { odd = omega arith; right = omega arith; down = omega arith; even = omega arith }
further Even s n = record { odd = omega arith; right = omega arith; down = omega arith; even = omega arith }

further_word : (w at b c first n k : ℕ) → b ≡ at + first → c ≡ at + n → first ≤ n →
    w * b + (w * (n - first) + k) ≡ w * c + k
further_word w at b c first n k eb ec l = grind (arith, common_steps)

beside_block : (w at b c first len end n k : ℕ) (xs ys : List ℕ) → IsSameOutsidePart (w * b) (w * len) xs ys → k < w →
    b ≡ at + first → c ≡ at + n → first + len ≡ end → (first ≤ n → n < end → ⊥) →
    get_or ys (w * c + k) 0 ≡ get_or xs (w * c + k) 0
beside_block w at b c first len end n k xs ys same l eb ec e out = grind (arith, common_steps, beside_run)

pub run_turned : (part : Partition) (p q : Planes) (first len end : ℕ) → first + len ≡ end →
    ((n : ℕ) → first ≤ n → n < end → IsNotRowEndBlock part p.stride n) →
    TurnsWordsFrom (block_at part p.stride first) (p.words * len) p q → TurnsNumberedBlocksBetween part first end p q
run_turned part p q first len end e inside t = record {
  turned = λ n k is l. let b = further part p.stride first in let c = further part p.stride n in
      placed _ _ _ _ _ _ _ _ _ _ _ _ _ _ _ _
      (further_word p.words _ _ _ first n k b.odd c.odd is.0)
      (further_word p.words _ _ _ first n k b.right c.right is.0)
      (further_word p.words _ _ _ first n k b.down c.down is.0)
      (further_word p.words _ _ _ first n k b.even c.even is.0)
      (t.turned (p.words * (n - first) + k) (below_end p.words (n - first) len k (omega (arith, is.0, is.1)) l));
  same = λ n k miss l. let b = further part p.stride first in let c = further part p.stride n in
      let out : first ≤ n → n < end → ⊥ = λ g h. miss (g, h, inside n g h) in record {
        odd = beside_block p.words _ _ _ first len end n k _ _ t.upper_left l b.odd c.odd e out;
        right = beside_block p.words _ _ _ first len end n k _ _ t.upper_right l b.right c.right e out;
        down = beside_block p.words _ _ _ first len end n k _ _ t.lower_left l b.down c.down e out;
        even = beside_block p.words _ _ _ first len end n k _ _ t.lower_right l b.even c.even e out;
      };
}

-- the blocks up to a place are turned, and those from it on to another stay
pub run_skipped : (part : Partition) (p q : Planes) (marks : List ℕ) (at end : ℕ) → AreMarkedBlocksStable part marks p →
    end ≤ block_number_count part p → ((n : ℕ) → at ≤ n → n < end → cell_at marks n ≡ true) →
    TurnsNumberedBlocksBetween part 0 at p q → at ≤ end → TurnsNumberedBlocksBetween part 0 end p q
run_skipped part p q marks at end calm room marked t le =
    named_join p.words p.stride part (λ n. (at ≤ n) × (n < end) × IsNotRowEndBlock part p.stride n)
    (λ n. (0 ≤ n) × (n < at) × IsNotRowEndBlock part p.stride n)
    (λ n. (0 ≤ n) × (n < end) × IsNotRowEndBlock part p.stride n)
    p p q (λ n g l. absurd (omega (arith, l.1, g.0)))
    (λ n l. by_lt_or_le n at (λ h. inr (l.0, h, l.2)) (λ h. inl (h, l.1, l.2)))
    (λ n g. (omega arith, g.1, g.2)) (λ n l. (l.0, omega (arith, l.1, le), l.2))
    (named_stay part p (λ n. (at ≤ n) × (n < end) × IsNotRowEndBlock part p.stride n)
    (λ n is. calm.calm n (omega (arith, is.1, room), is.2) (marked n is.0 is.1))) t

pub none_turned : (part : Partition) (p : Planes) → TurnsNumberedBlocksBetween part 0 0 p p
none_turned part p = grind (arith, common_steps, named_stay)

-- ---- the cells that are in no block
pub first_none : (part : Partition) (p : Planes) → KeepsCellsOutsideBlocks part p p
first_none part p = grind (arith, common_steps)

pub first_part : (part : Partition) (p q : Planes) (first long : ℕ) →
    TurnsWordsFrom (block_at part p.stride first) long p q → KeepsCellsOutsideBlocks part p q
first_part part p q first long t = let b = further part p.stride first in record {
  odd = λ u k h l. t.upper_left.below _ (place_within p.words _ u k (omega (arith, h, b.odd)) l);
  right = λ u k h l. t.upper_right.below _ (place_within p.words _ u k (omega (arith, h, b.right)) l);
  down = λ u k h l. t.lower_left.below _ (place_within p.words _ u k (omega (arith, h, b.down)) l);
  even = λ u k h l. t.lower_right.below _ (place_within p.words _ u k (omega (arith, h, b.even)) l);
}

pub first_join : (part : Partition) (p q r : Planes) → HasWordsStrideRows p.words p.stride p.rows q →
    KeepsCellsOutsideBlocks part p q → KeepsCellsOutsideBlocks part q r → KeepsCellsOutsideBlocks part p r
first_join part p q r size s t = grind (arith, common_steps)
