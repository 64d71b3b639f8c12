-- Cells that are known to be dead, and blocks of which one cell at most is live
use Rattle.lanes.proofs.Imports.{AreAllUnmarkedCellsDead, AreBlockCellsUnmarked, AreCellNumbers, AreCornerWordsTurned}
use Rattle.lanes.proofs.Imports.{AreNumberCellsUnmarked, AreNumberedCellsDead, AreUnmarkedBlocksStable, BlockMarks}
use Rattle.lanes.proofs.Imports.{BlockPlaces, Bool, ChangesOnlyDiagonals, HasWordsStrideRows, IsAntiDiagonalStable}
use Rattle.lanes.proofs.Imports.{IsBlockStable, IsDeadCell, IsDiagonalStable, IsMainDiagonalStable, IsNumberUnmarked}
use Rattle.lanes.proofs.Imports.{IsSameOutsidePart, List, LiveMarks, Planes, SwapsPart, TakesMarkOfOther, TurnsBlock}
use Rattle.lanes.proofs.Imports.{TurnsPart, ap, arith, bit, bit-zero, block_at, by_lt_or_le, common_steps, false}
use Rattle.lanes.proofs.Imports.{get_or, get_or-set_other, get_or-set_same, is_main_diagonal, length, not, set, sym}
use Rattle.lanes.proofs.Imports.{turned, ℕ, ◌*◌, ◌+◌, ◌-◌, ◌<◌, ◌∙◌, ◌≡◌, ◌≤◌, ◌⊎◌}
use Rattle.lanes.specs.Calm.{AreAllCellsDead}
use Rattle.lanes.specs.Live.{AreFirstCellsMarked, AreUnmarkedCellsDead, HasAtMostOneDiagonalMark}
use Rattle.lanes.specs.Live.{MarksChangedCells, SwapsDiagonalMarks, UnmarksOnlyDeadCells, UnmarksOnlyIfDead}
use Rattle.lanes.specs.Turns.{SwapsDiagonal}
use Rattle.lanes.specs.declared.blocks.Diagonal.{Diagonal}
use Rattle.lanes.specs.declared.blocks.Diagonal.TheVariants.{Anti, Main}
use Rattle.lanes.proofs.CalmLemmas.{other_cell}
use Rattle.lanes.proofs.TurnLemmas.{same_beside}
use Rattle.bbm_rule.proofs.PlaneLemmas.{dead_block as none_turned}

-- ---- words that change places, one after another
swapped_more : (a b k m : ℕ) (ys xs' ys' xs'' : List ℕ) →
    ((j : ℕ) → j < k → get_or xs' (a + j) 0 ≡ get_or ys (b + j) 0) →
    IsSameOutsidePart b k ys ys' → ((j : ℕ) → j < m → get_or xs'' (a + k + j) 0 ≡ get_or ys' (b + k + j) 0) →
    IsSameOutsidePart (a + k) m xs' xs'' → (j : ℕ) → j < k + m → get_or xs'' (a + j) 0 ≡ get_or ys (b + j) 0
swapped_more a b k m ys xs' ys' xs'' first beside second later j l = by_lt_or_le j k
    (λ h. later.below (a + j) (omega (arith, h)) ∙ first j h)
    (λ g. let ea : a + k + (j - k) ≡ a + j = omega (arith, g) in
    let eb : b + k + (j - k) ≡ b + j = omega (arith, g) in
    ap (λ (n : ℕ). get_or xs'' n 0) (sym ea) ∙ second (j - k) (omega (arith, g, l)) ∙ ap (λ (n : ℕ). get_or ys' n 0) eb
    ∙ beside.above (b + j) (omega (arith, g)))

pub swaps_more : (a b k m : ℕ) (xs ys xs' ys' xs'' ys'' : List ℕ) → SwapsPart a b k xs ys xs' ys' →
    SwapsPart (a + k) (b + k) m xs' ys' xs'' ys'' → SwapsPart a b (k + m) xs ys xs'' ys''
swaps_more a b k m xs ys xs' ys' xs'' ys'' s t = grind (arith, common_steps, swapped_more)

-- ---- blocks of which no cell is live
none_stays : (a b c d : ℕ) → a ≡ 0 → b ≡ 0 → c ≡ 0 → d ≡ 0 → IsDiagonalStable a b c d
none_stays a b c d ea eb ec ed j = rw (ea, eb, ec, ed, bit-zero j) (none_turned, none_turned)

pub dead_stable : (b : BlockPlaces) (p : Planes) → IsDeadCell p.words b.odd p.odd.items →
    IsDeadCell p.words b.right p.right.items → IsDeadCell p.words b.down p.down.items →
    IsDeadCell p.words b.even p.even.items → IsBlockStable b p
dead_stable b p odd right down even = grind (arith, common_steps, none_stays)

-- ---- blocks of which one cell at most is live
lone_here : (a b : Bool) → (a ≡ false) ⊎ (b ≡ false) → turned a b false false ≡ b
unfolding turned
lone_here a b h1 = grind (arith, common_steps)

lone_beside : (a b : Bool) → (a ≡ false) ⊎ (b ≡ false) → turned false false a b ≡ false
unfolding turned
lone_beside a b h1 = grind (arith, common_steps)

one_dead : (x y j : ℕ) → (x ≡ 0) ⊎ (y ≡ 0) → (bit x j ≡ false) ⊎ (bit y j ≡ false)
one_dead x y j h1 = grind (arith, common_steps, bit-zero)

swapped : {A B : Type 0} → A ⊎ B → B ⊎ A
swapped h1 = grind (arith, common_steps)

main_moved : (x y b c x' y' : ℕ) → (x ≡ 0) ⊎ (y ≡ 0) → b ≡ 0 → c ≡ 0 → x' ≡ y → y' ≡ x →
    AreCornerWordsTurned x b c y x' b c y'
main_moved x y b c x' y' one eb ec ex ey =
    grind (arith, common_steps, bit-zero, lone_here, one_dead, lone_beside, swapped)

anti_moved : (a x y d x' y' : ℕ) → (x ≡ 0) ⊎ (y ≡ 0) → a ≡ 0 → d ≡ 0 → x' ≡ y → y' ≡ x →
    AreCornerWordsTurned a x y d a x' y' d
anti_moved a x y d x' y' one ea ed ex ey =
    grind (arith, common_steps, bit-zero, lone_beside, one_dead, lone_here, swapped)

one_word : (w a b k : ℕ) (xs ys : List ℕ) → k < w → IsDeadCell w a xs ⊎ IsDeadCell w b ys →
    (get_or xs (w * a + k) 0 ≡ 0) ⊎ (get_or ys (w * b + k) 0 ≡ 0)
one_word w a b k xs ys h1 h2 = grind (arith, common_steps)

either_dead : (w n a b : ℕ) (m o xs ys : List ℕ) → a < n → b < n → AreUnmarkedCellsDead w n m xs →
    AreUnmarkedCellsDead w n o ys → IsNumberUnmarked m a ⊎ IsNumberUnmarked o b → IsDeadCell w a xs ⊎ IsDeadCell w b ys
either_dead w n a b m o xs ys h1 h2 h3 h4 h5 = grind (arith, common_steps)

pub lone_turned : (d : Diagonal) (b : BlockPlaces) (l : LiveMarks) (p q : Planes) → AreCellNumbers b p →
    HasAtMostOneDiagonalMark d l b → AreAllUnmarkedCellsDead l p → SwapsDiagonal d b p q → TurnsBlock b p q
lone_turned Main b l p q in_planes lone dead swap =
    grind (arith, common_steps, main_moved, one_word, same_beside, either_dead)
lone_turned Anti b l p q in_planes lone dead swap =
    grind (arith, common_steps, anti_moved, one_word, same_beside, either_dead)

-- ---- which cells change
pub swapped_cells : (d : Diagonal) (b : BlockPlaces) (p q : Planes) → SwapsDiagonal d b p q →
    ChangesOnlyDiagonals (is_main_diagonal d) (not (is_main_diagonal d)) b p q
swapped_cells Main b p q swap = grind (arith, common_steps, other_cell)
swapped_cells Anti b p q swap = grind (arith, common_steps, other_cell)

-- ---- which cells are dead afterwards
-- those whose marks and words changed places
swap_dead : (w n a b : ℕ) (m o m' xs ys xs' : List ℕ) → b < n → AreUnmarkedCellsDead w n m xs →
    AreUnmarkedCellsDead w n o ys → TakesMarkOfOther a b m o m' → IsSameOutsidePart (w * a) w xs xs' →
    ((k : ℕ) → k < w → get_or xs' (w * a + k) 0 ≡ get_or ys (w * b + k) 0) → AreUnmarkedCellsDead w n m' xs'
swap_dead w n a b m o m' xs ys xs' lb dead others takes beside moved v l free k h =
    grind (arith, common_steps, other_cell)

pub swapped_dead : (d : Diagonal) (b : BlockPlaces) (l l' : LiveMarks) (p q : Planes) →
    HasWordsStrideRows p.words p.stride p.rows q → AreCellNumbers b p → SwapsDiagonal d b p q →
    SwapsDiagonalMarks d b l l' → AreAllUnmarkedCellsDead l p → AreAllUnmarkedCellsDead l' q
swapped_dead Main b l l' p q size room s m dead =
    rw (size.0, size.1, size.2, s.1, s.2, m.2, m.3) (
      swap_dead p.words (p.stride * p.rows) b.odd b.even _ _ _ _ _ _ room.3 dead.0 dead.3 m.0 s.0.first_beside
          s.0.first,
      dead.1,
      dead.2,
      swap_dead p.words (p.stride * p.rows) b.even b.odd _ _ _ _ _ _ room.0 dead.3 dead.0 m.1 s.0.second_beside
          s.0.second,
    )
swapped_dead Anti b l l' p q size room s m dead =
    rw (size.0, size.1, size.2, s.1, s.2, m.2, m.3) (
      dead.0,
      swap_dead p.words (p.stride * p.rows) b.right b.down _ _ _ _ _ _ room.2 dead.1 dead.2 m.0 s.0.first_beside
          s.0.first,
      swap_dead p.words (p.stride * p.rows) b.down b.right _ _ _ _ _ _ room.1 dead.2 dead.1 m.1 s.0.second_beside
          s.0.second,
      dead.3,
    )

pub cells_dead : (main anti : Bool) (b : BlockPlaces) (l l' : LiveMarks) (p q : Planes) →
    HasWordsStrideRows p.words p.stride p.rows q → ChangesOnlyDiagonals main anti b p q →
    MarksChangedCells main anti b l l' → AreAllUnmarkedCellsDead l p → AreAllUnmarkedCellsDead l' q
cells_dead main anti b l l' p q size ch marks dead = grind (arith, common_steps)

-- those without a mark, after marks were taken off dead ones
unmark_dead_cells : (w n c : ℕ) (m m' xs : List ℕ) → UnmarksOnlyIfDead w c xs m m' → AreUnmarkedCellsDead w n m xs →
    AreUnmarkedCellsDead w n m' xs
unmark_dead_cells w n c m m' xs drops dead u l free k h = grind (arith, common_steps)

pub drops_dead : (b : BlockPlaces) (l l' : LiveMarks) (p : Planes) → UnmarksOnlyDeadCells p b l l' →
    AreAllUnmarkedCellsDead l p → AreAllUnmarkedCellsDead l' p
drops_dead b l l' p drops dead = grind (arith, common_steps, unmark_dead_cells)

-- none, where all have marks
pub marked_dead : (n : ℕ) (l : LiveMarks) (p : Planes) → p.stride * p.rows ≤ n → AreFirstCellsMarked n l →
    AreAllUnmarkedCellsDead l p
marked_dead n l p room all = grind (arith, common_steps)

-- and whichever have marks, where all cells are dead
pub dead_all : (l : LiveMarks) (p : Planes) → AreAllCellsDead p → AreAllUnmarkedCellsDead l p
dead_all l p dead = grind (arith, common_steps)

-- the four cells with a number, where none has a mark
pub dead_at : (u : ℕ) (l : LiveMarks) (p : Planes) → u < p.stride * p.rows → AreAllUnmarkedCellsDead l p →
    AreNumberCellsUnmarked l u → AreNumberedCellsDead u p
dead_at u l p h dead free k i = grind (arith, common_steps)

-- a block of which no cell has a mark
pub dead_block : (b : BlockPlaces) (l : LiveMarks) (p : Planes) → AreCellNumbers b p → AreAllUnmarkedCellsDead l p →
    AreBlockCellsUnmarked l b → IsBlockStable b p
dead_block b l p room dead free = dead_stable b p (dead.0 b.odd room.0 free.0) (dead.1 b.right room.1 free.1)
    (dead.2 b.down room.2 free.2) (dead.3 b.even room.3 free.3)

-- each block stays, where all cells are dead
pub dead_blocks : (m : BlockMarks) (p : Planes) → AreAllCellsDead p → AreUnmarkedBlocksStable m p
dead_blocks m p dead part u is free = dead_stable (block_at part p.stride u) p (λ k h. (dead _ k h).0)
    (λ k h. (dead _ k h).1) (λ k h. (dead _ k h).2) (λ k h. (dead _ k h).3)

-- ---- blocks of one word
pub one_turned : (a b c d a' b' c' d' : ℕ) (ul ur ll lr : List ℕ) → a < length ul → b < length ur → c < length ll →
    d < length lr → AreCornerWordsTurned (get_or ul a 0) (get_or ur b 0) (get_or ll c 0) (get_or lr d 0) a' b' c' d' →
    TurnsPart a b c d 1 ul ur ll lr (set ul a a') (set ur b b') (set ll c c') (set lr d d')
one_turned a b c d a' b' c' d' ul ur ll lr la lb lc ld t =
    grind (arith, common_steps, get_or-set_same, get_or-set_other)

pub times_one : (w a : ℕ) → w ≡ 1 → w * a ≡ a
times_one w a e = rw e (omega arith)

pub part_of_one : (w a b c d : ℕ) (ul ur ll lr ul' ur' ll' lr' : List ℕ) → w ≡ 1 →
    TurnsPart a b c d 1 ul ur ll lr ul' ur' ll' lr' →
    TurnsPart (w * a) (w * b) (w * c) (w * d) w ul ur ll lr ul' ur' ll' lr'
part_of_one w a b c d ul ur ll lr ul' ur' ll' lr' e t = grind (arith, common_steps, times_one)

one_place : (w a k : ℕ) → w ≡ 1 → k < w → w * a + k ≡ a
one_place w a k e l = let m = times_one w a e in omega (arith, m, e, l)

pub one_main : (b : BlockPlaces) (p : Planes) → p.words ≡ 1 → IsDiagonalStable (get_or p.odd.items b.odd 0)
    (get_or p.even.items b.even 0) (get_or p.right.items b.right 0) (get_or p.down.items b.down 0) →
    IsMainDiagonalStable b p
one_main b p e stays k l = let place : (a : ℕ) → p.words * a + k ≡ a = λ a. one_place p.words a k e l in
    simp place stays

pub one_anti : (b : BlockPlaces) (p : Planes) → p.words ≡ 1 → IsDiagonalStable (get_or p.right.items b.right 0)
    (get_or p.down.items b.down 0) (get_or p.odd.items b.odd 0) (get_or p.even.items b.even 0) →
    IsAntiDiagonalStable b p
one_anti b p e stays k l = let place : (a : ℕ) → p.words * a + k ≡ a = λ a. one_place p.words a k e l in
    simp place stays
