-- Steps that pass over the blocks that stay
use Rattle.lanes.proofs.Imports.{AreAllUnmarkedCellsDead, AreBlockCellsUnmarked, AreUnmarkedBlocksStable, BlockMarks}
use Rattle.lanes.proofs.Imports.{BlockPlaces, Even, HasWordsStrideRows, IsBlockStable, IsBlockWordSame}
use Rattle.lanes.proofs.Imports.{IsBlockWordTurned, IsNotRowEndBlock, IsNumberUnmarked, IsPassedBlock, LiveMarks, Odd}
use Rattle.lanes.proofs.Imports.{Partition, Planes, TurnsBlock, TurnsBlocksSatisfying, TurnsNumberedBlocksBetween, ap}
use Rattle.lanes.proofs.Imports.{arith, bit, bit-zero, block_at, block_number_count, by_eq_or_not, by_lt_or_le}
use Rattle.lanes.proofs.Imports.{common_steps, div-add-mod, false, false≢true, inl, inr, marks_of, mod-lt}
use Rattle.lanes.proofs.Imports.{mul-le-mul_left, subst, sym, true, ℕ, ◌%◌, ◌*◌, ◌+◌, ◌/◌, ◌<◌, ◌∙◌, ◌≡◌, ◌≢◌, ◌≤◌, ◌⊎◌}
use Rattle.lanes.specs.Sweeps.{IsInRangeNotInWordRest, TurnsOnlyNamedBlocks}
use Rattle.lanes.specs.Lanes.{TurnsCellsOfPartition}
use Rattle.lanes.proofs.TurnLemmas.{calm_turned, half_turned}
use Rattle.lanes.proofs.CalmLemmas.{cells_of, odd_even, other_cell}
use Rattle.lanes.proofs.LiveLemmas.{dead_block}
use Rattle.lanes.proofs.InsideLemmas.{next_in_row}
use Rattle.lanes.proofs.LaneLemmas.{inner_lane, odd_lane}

-- ---- words that are turned once, and stay before or after
pub turned_before : (w : ℕ) (b : BlockPlaces) (k : ℕ) (p q r : Planes) → IsBlockWordSame w b k p q →
    IsBlockWordTurned w b k q r → IsBlockWordTurned w b k p r
turned_before w b k p q r e t = rw (e.odd, e.right, e.down, e.even) at t

pub turned_after : (w : ℕ) (b : BlockPlaces) (k : ℕ) (p q r : Planes) → IsBlockWordSame w b k q r →
    IsBlockWordTurned w b k p q → IsBlockWordTurned w b k p r
turned_after w b k p q r e t = rw (e.odd, e.right, e.down, e.even) t

-- ---- named blocks
-- nothing changes where the named blocks stay
pub named_stay : (part : Partition) (p : Planes) (P : ℕ → Type 0) →
    ((n : ℕ) → P n → IsBlockStable (block_at part p.stride n) p) → TurnsBlocksSatisfying part P p p
named_stay part p P stay = grind (arith, common_steps, calm_turned)

-- the same blocks under another name
pub renamed : (w s : ℕ) (part : Partition) (P Q : ℕ → Type 0) (p q : Planes) → ((n : ℕ) → Q n → P n) →
    ((n : ℕ) → P n → Q n) → TurnsOnlyNamedBlocks w s part P p q → TurnsOnlyNamedBlocks w s part Q p q
renamed w s part P Q p q from to t = grind (arith, common_steps)

-- and by the numbers of words and of cells of a row that are the same
resized : (w w' s s' : ℕ) (part : Partition) (P : ℕ → ℕ → Type 0) (p q : Planes) → w ≡ w' → s ≡ s' →
    TurnsOnlyNamedBlocks w s part (P s) p q → TurnsOnlyNamedBlocks w' s' part (P s') p q
resized w w' s s' part P p q ew es t = rw (ew, es) at t

-- some blocks are turned after others
pub named_join : (w s : ℕ) (part : Partition) (P Q R : ℕ → Type 0) (p q r : Planes) → ((n : ℕ) → P n → Q n → ⊥) →
    ((n : ℕ) → R n → P n ⊎ Q n) → ((n : ℕ) → P n → R n) → ((n : ℕ) → Q n → R n) →
    TurnsOnlyNamedBlocks w s part P p q → TurnsOnlyNamedBlocks w s part Q q r → TurnsOnlyNamedBlocks w s part R p r
named_join w s part P Q R p q r apart of_r r_of_p r_of_q first second = record {
  turned = λ n k is l. elim (of_r n is) [
    | inl a ↦ turned_after w _ k p q r (second.same n k (λ b. apart n a b) l) (first.turned n k a l)
    | inr b ↦ turned_before w _ k p q r (first.same n k (λ a. apart n a b) l) (second.turned n k b l)
  ];
  same = grind (arith, common_steps);
}

-- one block is turned
pub one_named : (part : Partition) (p q : Planes) (u : ℕ) → TurnsBlock (block_at part p.stride u) p q →
    TurnsBlocksSatisfying part (λ n. n ≡ u) p q
one_named part p q u t = grind (arith, common_steps, other_cell)

-- ---- blocks whose marks are in one word, and those whose marks are not among the rest of the word
-- where the mark of block u is cleared, this block is one of them too
pub record OnePast (first end rest rest' u : ℕ) : Type 0 where
  pub free : IsInRangeNotInWordRest first end rest u → ⊥
  pub here : IsInRangeNotInWordRest first end rest' u
  pub from : (n : ℕ) → n ≢ u → IsInRangeNotInWordRest first end rest' n → IsInRangeNotInWordRest first end rest n
  pub to : (n : ℕ) → n ≢ u → IsInRangeNotInWordRest first end rest n → IsInRangeNotInWordRest first end rest' n

pub one_past : (first end rest rest' t : ℕ) → first % 64 ≡ 0 → end ≤ first + 64 → t < 64 → first + t < end →
    bit rest t ≡ true → bit rest' t ≡ false → ((j : ℕ) → j ≢ t → bit rest' j ≡ bit rest j) →
    OnePast first end rest rest' (first + t)
one_past first end rest rest' t aligned short small le set cleared same = grind (arith, common_steps, false≢true)

-- before the first mark of the rest all are
pub past_before : (first end rest t n : ℕ) → first % 64 ≡ 0 → end ≤ first + 64 → end ≤ first + t →
    ((j : ℕ) → j < t → bit rest j ≡ false) → first ≤ n → n < end → IsInRangeNotInWordRest first end rest n
past_before first end rest t n aligned short le none l h = (l, h, none (n % 64) (omega arith))

-- and so are all if there is no rest
pub past_all : (first end rest n : ℕ) → rest ≡ 0 → first ≤ n → n < end → IsInRangeNotInWordRest first end rest n
past_all first end rest n e l h = (l, h, ap (λ (m : ℕ). bit m (n % 64)) e ∙ bit-zero (n % 64))

-- ---- the blocks of a partition
-- blocks stay whose marks are not in a word, where these blocks have no mark or have none on their cells
pub passed_stay : (part : Partition) (p : Planes) (m : BlockMarks) (l : LiveMarks) (k end word : ℕ) →
    AreUnmarkedBlocksStable m p → AreAllUnmarkedCellsDead l p → end ≤ 64 * k + 64 → end ≤ block_number_count part p →
    ((n : ℕ) → n / 64 ≡ k → bit word (n % 64) ≡ false →
    IsNumberUnmarked (marks_of part m) n ⊎ AreBlockCellsUnmarked l (block_at part p.stride n)) →
    TurnsBlocksSatisfying part (IsPassedBlock part p.stride (64 * k) end word) p p
passed_stay part p m l k end word calm dead short within says =
    named_stay part p (IsPassedBlock part p.stride (64 * k) end word) (λ n is.
    let inside : n < block_number_count part p = omega (arith, is.0.1, within) in
    elim (says n (omega (arith, is.0.0, is.0.1, short)) is.0.2) [
      | inl free ↦ calm part n (inside, is.1) free
      | inr free ↦ dead_block (block_at part p.stride n) l p (cells_of part p n inside) dead free
    ])

-- whether a number is that of the last block of a row
pub by_row_end : {A : Type 0} (part : Partition) (s n : ℕ) → (IsNotRowEndBlock part s n → A) →
    ((IsNotRowEndBlock part s n → ⊥) → A) → A
by_row_end part s n h1 h2 = grind (arith, common_steps, odd_even)

-- one more mark is cleared: its block is turned, or is the last one of its row
pub one_more : (part : Partition) (p q r : Planes) (u first end rest rest' : ℕ) → OnePast first end rest rest' u →
    HasWordsStrideRows p.words p.stride p.rows q →
    TurnsBlocksSatisfying part (IsPassedBlock part p.stride first end rest) p q →
    (IsNotRowEndBlock part q.stride u → TurnsBlock (block_at part q.stride u) q r) →
    ((IsNotRowEndBlock part q.stride u → ⊥) → r ≡ q) →
    TurnsBlocksSatisfying part (IsPassedBlock part p.stride first end rest') p r
one_more part p q r u first end rest rest' one size before turns last = by_row_end part q.stride u
    (λ inside.
    let here : IsNotRowEndBlock part p.stride u = rw size.1 at inside in
    let turned = resized q.words p.words q.stride p.stride part (λ (s n : ℕ). n ≡ u) q r size.0 size.1
    (one_named part q r u (turns inside)) in
    named_join p.words p.stride part (IsPassedBlock part p.stride first end rest) (λ n. n ≡ u)
    (IsPassedBlock part p.stride first end rest') p q r
    (λ n is e. one.free (subst (IsInRangeNotInWordRest first end rest) e is.0))
    (λ n is. by_eq_or_not n u (λ e. inr e) (λ ne. inl (one.from n ne is.0, is.1)))
    (λ n is. (one.to n (λ e. one.free (subst (IsInRangeNotInWordRest first end rest) e is.0)) is.0, is.1))
    (λ n e. rw e (one.here, here)) before turned)
    (λ out. subst (λ (o : Planes). TurnsBlocksSatisfying part (IsPassedBlock part p.stride first end rest') p o)
    (sym (last out))
    (renamed p.words p.stride part (IsPassedBlock part p.stride first end rest)
    (IsPassedBlock part p.stride first end rest') p q
    (λ n is. (one.from n (other n is.1 out) is.0, is.1)) (λ n is. (one.to n (other n is.1 out) is.0, is.1)) before))
  where
    other : (n : ℕ) → IsNotRowEndBlock part p.stride n → (IsNotRowEndBlock part q.stride u → ⊥) → n ≢ u
    other n inside out e = out (rw (size.1, sym e) inside)

pub join : (part : Partition) (p q r : Planes) (at end : ℕ) → HasWordsStrideRows p.words p.stride p.rows q → at ≤ end →
    TurnsNumberedBlocksBetween part 0 at p q → TurnsNumberedBlocksBetween part at end q r →
    TurnsNumberedBlocksBetween part 0 end p r
join part p q r at end size le s t = grind (arith, common_steps, resized, named_join, by_lt_or_le)

-- the blocks below a number are turned, as far as there are some
abbrev pub TurnsBelow : Partition → ℕ → ℕ → Planes → Planes → Type 0
TurnsBelow part at blocks p q =
    TurnsBlocksSatisfying part (λ n. (n < at) × (n < blocks) × IsNotRowEndBlock part p.stride n) p q

below_end : (k end blocks n : ℕ) → (64 * k + 64 ≤ end) ⊎ (blocks ≤ end) → n < 64 * (k + 1) → n < blocks → n < end
below_end k end blocks n (inl l) below inside = omega arith
below_end k end blocks n (inr l) below inside = omega arith

-- so are those of one more word of marks
pub word_more : (part : Partition) (p q r : Planes) (k end blocks : ℕ) → HasWordsStrideRows p.words p.stride p.rows q →
    64 * k < end → end ≤ blocks → end ≤ 64 * k + 64 → (64 * k + 64 ≤ end) ⊎ (blocks ≤ end) →
    TurnsBelow part (64 * k) blocks p q → TurnsNumberedBlocksBetween part (64 * k) end q r →
    TurnsBelow part (64 * (k + 1)) blocks p r
word_more part p q r k end blocks size some within short whole s t =
    renamed p.words p.stride part (λ n. (0 ≤ n) × (n < end) × IsNotRowEndBlock part p.stride n)
    (λ n. (n < 64 * (k + 1)) × (n < blocks) × IsNotRowEndBlock part p.stride n) p r
    (λ n is. (omega arith, below_end k end blocks n whole is.0 is.1, is.2))
    (λ n is. (omega (arith, is.1), omega (arith, is.1), is.2))
    (join part p q r (64 * k) end size (omega arith)
    (grind (arith, common_steps, renamed)) t)

-- and those of a word without marks
pub word_more_none : (part : Partition) (p q : Planes) (k blocks rest : ℕ) →
    HasWordsStrideRows p.words p.stride p.rows q → 64 * k < blocks → rest ≡ 0 →
    ((end : ℕ) → end ≤ 64 * k + 64 → end ≤ blocks →
    TurnsBlocksSatisfying part (IsPassedBlock part q.stride (64 * k) end rest) q q) →
    TurnsBelow part (64 * k) blocks p q → TurnsBelow part (64 * (k + 1)) blocks p q
word_more_none part p q k blocks rest size some none calm s = by_lt_or_le (64 * k + 64) blocks
    (λ l. word_more part p q q k (64 * k + 64) blocks size (omega arith) (omega arith) (omega arith) (inl (omega arith))
    s (turned (64 * k + 64) (omega arith) (omega arith)))
    (λ l. word_more part p q q k blocks blocks size some (omega arith) l (inr (omega arith)) s
    (turned blocks l (omega arith)))
  where
    turned : (end : ℕ) → end ≤ 64 * k + 64 → end ≤ blocks → TurnsNumberedBlocksBetween part (64 * k) end q q
    turned end short within = renamed q.words q.stride part (IsPassedBlock part q.stride (64 * k) end rest)
        (λ n. (64 * k ≤ n) × (n < end) × IsNotRowEndBlock part q.stride n) q q
        (λ n l. (past_all (64 * k) end rest n none l.0 l.1, l.2)) (λ n is. (is.0.0, is.0.1, is.1))
        (calm end short within)

-- in the end all are
pub below_all : (part : Partition) (p q : Planes) (at blocks : ℕ) → blocks ≤ at → TurnsBelow part at blocks p q →
    TurnsNumberedBlocksBetween part 0 blocks p q
below_all part p q at blocks l t = grind (arith, common_steps, renamed)

-- and each cell is
pub all_turned : (part : Partition) (p q : Planes) → HasWordsStrideRows p.words p.stride p.rows q →
    TurnsNumberedBlocksBetween part 0 (block_number_count part p) p q → TurnsCellsOfPartition part p q
all_turned Odd p q size t = odd_lane p q size (λ k l.
    let at : p.words * (k / p.words) + k % p.words ≡ k = div-add-mod k p.words in
    let cell : k / p.words < p.stride * p.rows = by_lt_or_le (k / p.words) (p.stride * p.rows) (λ h. h)
    (λ h. let m : p.words * (p.stride * p.rows) ≤ p.words * (k / p.words) = mul-le-mul_left p.words h in
    absurd (omega arith)) in
    let h = t.turned (k / p.words) (k % p.words) (omega arith, cell, λ e. absurd (odd_even e)) (mod-lt k p.some.0) in
    rw at at h)
all_turned Even p q size t = inner_lane p q size (λ i j k li lj lk.
    let down : p.stride * j + i + 1 ≡ p.stride * j + (1 + i) = omega arith in
    let right : p.stride * j + i + p.stride ≡ p.stride * (1 + j) + i = omega arith in
    let odd : p.stride * j + i + p.stride + 1 ≡ p.stride * (1 + j) + (1 + i) = omega arith in
    let below : p.stride * (1 + j) + (1 + i) < p.stride * p.rows = let m : p.stride * (1 + j + 1) ≤ p.stride * p.rows =
    mul-le-mul_left p.stride (omega arith) in omega arith in
    let h = half_turned _ _ _ _ _ _ _ _ (t.turned (p.stride * j + i) k (
      omega arith,
      omega (arith, below, odd),
      λ e z. zero_not i (sym (next_in_row p.stride j i (omega arith)) ∙ z),
    ) lk) in
    rw (odd, right, down) at h)
  where
    zero_not : (i : ℕ) → i + 1 ≡ 0 → ⊥
    zero_not i z = omega arith
