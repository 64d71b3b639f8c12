-- Blocks that no step changes
use Rattle.lanes.proofs.Imports.{AreAllUnmarkedCellsDead, AreMarkedBlocksStable, ArePlaneWordsInRange}
use Rattle.lanes.proofs.Imports.{AreUnmarkedBlocksStable, BlockMarks, BlockPlaces, Bool, ChangesOnlyDiagonals, Even}
use Rattle.lanes.proofs.Imports.{HasRoomForAllBlockMarks, HasValueUnderEachAssignment, HasWordsStrideRows, IsBlockHeld}
use Rattle.lanes.proofs.Imports.{IsBlockHeldAndEmpty, IsBlockWordSame, IsBlockWordTurned, IsDeadCell, IsNumberUnmarked}
use Rattle.lanes.proofs.Imports.{KeepsCellsOutsideBlocks, List, LiveMarks, Odd, Partition, Planes, TurnsBlock}
use Rattle.lanes.proofs.Imports.{TurnsNumberedBlocksBetween, ap, arith, bit, block_at, block_number_count, by_eq_or_not}
use Rattle.lanes.proofs.Imports.{by_lt_or_le, cell_at, cell_word_bit, common_steps, false, false≢true, get_or, inl, inr}
use Rattle.lanes.proofs.Imports.{marks_of, subst, true, ℕ, ◌*◌, ◌+◌, ◌-◌, ◌<◌, ◌^◌, ◌≡◌, ◌⊎◌}
use Rattle.lemmas.proofs.Common.{props, ∥∥₁_elim, ∥∥₁_map}
use Rattle.lanes.specs.Blocks.{IsNumberOfBlock}
use Rattle.lanes.specs.Calm.{AreBlocksMarkedUnlessIn, AreFirstBlocksMarked}
use Rattle.lanes.specs.Frozen.{AreBlocksFrozenIfFound, AreBlocksMarkedAt, AreMarkedBlocksFrozen}
use Rattle.lanes.specs.Live.{AreAllUnmarkedCellsDead-prop, AreCellsMarkedUnlessInBoth}
use Rattle.lanes.specs.declared.frozen.FrozenBlocks.{FrozenBlocks}
use Rattle.lanes.proofs.CalmLemmas.{count_below, same_count}
use Rattle.lanes.proofs.FieldLemmas.{by_row_end, one_named}
use Rattle.lanes.proofs.HeldLemmas.{BlockStays, StaysBits, TurnsBits, held_stable, held_stays}
use Rattle.lanes.proofs.MarkFlips.{zero_word}
use Rattle.lanes.proofs.RunLemmas.{first_part}

-- ---- blocks that are turned or stay
-- the cells of a block are turned
abbrev BlockTurns : BlockPlaces → Planes → Planes → Type 0
BlockTurns b p q = TurnsBits p.words (cell_word_bit p.words p.odd.items b.odd)
    (cell_word_bit p.words p.right.items b.right) (cell_word_bit p.words p.down.items b.down)
    (cell_word_bit p.words p.even.items b.even) (cell_word_bit p.words q.odd.items b.odd)
    (cell_word_bit p.words q.right.items b.right) (cell_word_bit p.words q.down.items b.down)
    (cell_word_bit p.words q.even.items b.even)

-- they stay
abbrev BlockSame : BlockPlaces → Planes → Planes → Type 0
BlockSame b p q = BlockStays p.words (cell_word_bit p.words p.odd.items b.odd)
    (cell_word_bit p.words p.right.items b.right) (cell_word_bit p.words p.down.items b.down)
    (cell_word_bit p.words p.even.items b.even) (cell_word_bit p.words q.odd.items b.odd)
    (cell_word_bit p.words q.right.items b.right) (cell_word_bit p.words q.down.items b.down)
    (cell_word_bit p.words q.even.items b.even)

-- each block of a partition is turned or stays; what is no block stays, and the cells that are in none
pub record MayTurnBlocks (part : Partition) (p q : Planes) : Type 0 where
  pub blocks : (n : ℕ) → (IsNumberOfBlock part p n × BlockTurns (block_at part p.stride n) p q)
      ⊎ BlockSame (block_at part p.stride n) p q
  pub first : KeepsCellsOutsideBlocks part p q

same_bits : (w a : ℕ) (xs ys : List ℕ) → ((k : ℕ) → k < w → get_or ys (w * a + k) 0 ≡ get_or xs (w * a + k) 0) →
    StaysBits w (cell_word_bit w xs a) (cell_word_bit w ys a)
same_bits w a xs ys same k j lk lj = ap (λ (n : ℕ). bit n j) (same k lk)

turned_bits : (b : BlockPlaces) (p q : Planes) → ((k : ℕ) → k < p.words → IsBlockWordTurned p.words b k p q) →
    BlockTurns b p q
turned_bits b p q t = grind (arith, common_steps)

same_block : (b : BlockPlaces) (p q : Planes) → ((k : ℕ) → k < p.words → IsBlockWordSame p.words b k p q) →
    BlockSame b p q
same_block b p q same = grind (arith, common_steps, same_bits)

-- where one block is turned
pub one_may_turn : (part : Partition) (p q : Planes) (u : ℕ) → IsNumberOfBlock part p u →
    TurnsBlock (block_at part p.stride u) p q → MayTurnBlocks part p q
one_may_turn part p q u is t = let named = one_named part p q u t in record {
  blocks = λ n. by_eq_or_not n u
      (λ e. inl (rw e is, turned_bits _ p q (λ k l. named.turned n k e l)))
      (λ ne. inr (same_block _ p q (λ k l. named.same n k ne l)));
  first = first_part part p q u p.words t;
}

-- where all are
pub all_may_turn : (part : Partition) (p q : Planes) →
    TurnsNumberedBlocksBetween part 0 (block_number_count part p) p q →
    KeepsCellsOutsideBlocks part p q → MayTurnBlocks part p q
all_may_turn part p q t first = record {
  blocks = λ n. by_lt_or_le n (block_number_count part p)
      (λ h. by_row_end part p.stride n
      (λ inside. inl ((h, inside), turned_bits _ p q (λ k l. t.turned n k (omega arith, h, inside) l)))
      (λ last. inr (same_block _ p q (λ k l. t.same n k (λ is. last is.2) l))))
      (λ g. inr (same_block _ p q (λ k l. t.same n k (λ is. absurd (omega (arith, g, is.1))) l)));
  first = first;
}

-- ---- frozen blocks after a step
same_room : (b : FrozenBlocks) (p q : Planes) → HasWordsStrideRows p.words p.stride p.rows q →
    HasRoomForAllBlockMarks b p → HasRoomForAllBlockMarks b q
same_room b p q size room = grind (arith, common_steps)

-- a cell is before those of the first block, or has a block
record HasBlock (part : Partition) (s u : ℕ) : Type 0 where
  odd : (u < (block_at part s 0).odd) ⊎ ((block_at part s (u - (block_at part s 0).odd)).odd ≡ u)
  right : (u < (block_at part s 0).right) ⊎ ((block_at part s (u - (block_at part s 0).right)).right ≡ u)
  down : (u < (block_at part s 0).down) ⊎ ((block_at part s (u - (block_at part s 0).down)).down ≡ u)
  even : (u < (block_at part s 0).even) ⊎ ((block_at part s (u - (block_at part s 0).even)).even ≡ u)

has_block : (part : Partition) (s u : ℕ) → HasBlock part s u
has_block Odd s u = grind (arith, common_steps)
has_block Even s u = grind (arith, common_steps)

-- the cells whose blocks of a partition have marks stay, where these blocks and the cells in none stay
record CellsStay (part : Partition) (marks : List ℕ) (p q : Planes) : Type 0 where
  odd : (u : ℕ) → AreBlocksMarkedAt part marks p.stride (λ b. b.odd) u →
      StaysBits p.words (cell_word_bit p.words p.odd.items u) (cell_word_bit p.words q.odd.items u)
  right : (u : ℕ) → AreBlocksMarkedAt part marks p.stride (λ b. b.right) u →
      StaysBits p.words (cell_word_bit p.words p.right.items u) (cell_word_bit p.words q.right.items u)
  down : (u : ℕ) → AreBlocksMarkedAt part marks p.stride (λ b. b.down) u →
      StaysBits p.words (cell_word_bit p.words p.down.items u) (cell_word_bit p.words q.down.items u)
  even : (u : ℕ) → AreBlocksMarkedAt part marks p.stride (λ b. b.even) u →
      StaysBits p.words (cell_word_bit p.words p.even.items u) (cell_word_bit p.words q.even.items u)

abbrev MarkedStay : Partition → List ℕ → Planes → Planes → Type 0
MarkedStay part marks p q = (n : ℕ) → cell_at marks n ≡ true → BlockSame (block_at part p.stride n) p q

cells_stay : (part : Partition) (marks : List ℕ) (p q : Planes) → MarkedStay part marks p q →
    KeepsCellsOutsideBlocks part p q → CellsStay part marks p q
cells_stay part marks p q stay first = record {
  odd = λ u marked. elim (has_block part p.stride u).odd [
    | inl h ↦ same_bits p.words u _ _ (λ k l. first.odd u k h l)
    | inr e ↦ subst (λ (v : ℕ). StaysBits p.words (cell_word_bit p.words p.odd.items v)
        (cell_word_bit p.words q.odd.items v)) e (stay _ (marked _ e)).upper_left
  ];
  right = λ u marked. elim (has_block part p.stride u).right [
    | inl h ↦ same_bits p.words u _ _ (λ k l. first.right u k h l)
    | inr e ↦ subst (λ (v : ℕ). StaysBits p.words (cell_word_bit p.words p.right.items v)
        (cell_word_bit p.words q.right.items v)) e (stay _ (marked _ e)).upper_right
  ];
  down = λ u marked. elim (has_block part p.stride u).down [
    | inl h ↦ same_bits p.words u _ _ (λ k l. first.down u k h l)
    | inr e ↦ subst (λ (v : ℕ). StaysBits p.words (cell_word_bit p.words p.down.items v)
        (cell_word_bit p.words q.down.items v)) e (stay _ (marked _ e)).lower_left
  ];
  even = λ u marked. elim (has_block part p.stride u).even [
    | inl h ↦ same_bits p.words u _ _ (λ k l. first.even u k h l)
    | inr e ↦ subst (λ (v : ℕ). StaysBits p.words (cell_word_bit p.words p.even.items v)
        (cell_word_bit p.words q.even.items v)) e (stay _ (marked _ e)).lower_right
  ];
}

-- a block is held still if its cells stay, or those of its cells whose blocks of the other partition have marks
held_on : (part other : Partition) (b : FrozenBlocks) (p q : Planes) (u : ℕ) →
    HasWordsStrideRows p.words p.stride p.rows q → MarkedStay part (marks_of part b.marks) p q →
    CellsStay part (marks_of part b.marks) p q → cell_at (marks_of other b.marks) u ≡ true →
    IsBlockHeld other b.marks p u → IsBlockHeld other b.marks q u
held_on Odd Odd b p q u size stay cells m h = let s = stay u m in grind (arith, common_steps)
held_on Odd Even b p q u size stay cells m h = grind (arith, common_steps)
held_on Even Odd b p q u size stay cells m h = grind (arith, common_steps)
held_on Even Even b p q u size stay cells m h = let s = stay u m in grind (arith, common_steps)

empty_on : (part : Partition) (b : FrozenBlocks) (p q : Planes) (u : ℕ) → HasWordsStrideRows p.words p.stride p.rows q →
    MarkedStay part (marks_of part b.marks) p q → CellsStay part (marks_of part b.marks) p q →
    cell_at b.marks.odd.items u ≡ true → IsBlockHeldAndEmpty Odd b.marks p u → IsBlockHeldAndEmpty Odd b.marks q u
empty_on Odd b p q u size stay cells m h = let s = stay u m in grind (arith, common_steps)
empty_on Even b p q u size stay cells m h = grind (arith, common_steps)

frozen_on : (part : Partition) (b : FrozenBlocks) (p q : Planes) → HasWordsStrideRows p.words p.stride p.rows q →
    MarkedStay part (marks_of part b.marks) p q → KeepsCellsOutsideBlocks part p q → AreMarkedBlocksFrozen b p →
    AreMarkedBlocksFrozen b q
frozen_on part b p q size stay first f = record {
  room = same_room b p q size f.room;
  blocks = λ other. record {
    held = λ u is m.
        let count = rw (same_count other p q size) at is.0 in
        let inside = rw size.1 at is.1 in
        held_on part other b p q u size stay cells m ((f.blocks other).held u (count, inside) m);
    last = λ u l out.
        let count = rw (same_count other p q size) at l in
        let out = rw size.1 at out in
        (f.blocks other).last u count out;
  };
  empty = λ u l m e. let l = rw (size.1, size.2) at l in empty_on part b p q u size stay cells m (f.empty u l m e);
}
  where
    cells : CellsStay part (marks_of part b.marks) p q
    cells = cells_stay part (marks_of part b.marks) p q stay first

-- ---- frozen blocks, if they were found
pub still_frozen : (part : Partition) (b : FrozenBlocks) (p q : Planes) → HasWordsStrideRows p.words p.stride p.rows q →
    MayTurnBlocks part p q → AreBlocksFrozenIfFound b p → AreBlocksFrozenIfFound b q
still_frozen part b p q size may frozen = ∥∥₁_map frozen (λ h e. frozen_on part b p q size (stay (h e)) may.first (h e))
  where
    stay : AreMarkedBlocksFrozen b p → MarkedStay part (marks_of part b.marks) p q
    stay f n m = elim (may.blocks n) [
      | inl t ↦ held_stays p.words _ _ _ _ _ _ _ _ _ _ _ _ ((f.blocks part).held n t.0 m) (inl t.1)
      | inr s ↦ s
    ]

stable_prop : (part : Partition) (marks : List ℕ) (p : Planes) → IsProp (AreMarkedBlocksStable part marks p)
stable_prop part marks p = Prim.hlevel props

pub found_stable : (part : Partition) (b : FrozenBlocks) (p : Planes) → ArePlaneWordsInRange p →
    AreBlocksFrozenIfFound b p → b.is_found ≡ true → AreMarkedBlocksStable part (marks_of part b.marks) p
found_stable part b p words frozen e = ∥∥₁_elim frozen (stable_prop part (marks_of part b.marks) p) (λ h. record {
  calm = λ u is m. held_stable (block_at part p.stride u) p _ _ _ _ words (((h e).blocks part).held u is m);
  last = ((h e).blocks part).last;
})

-- and the room for their marks
pub room_found : (b : FrozenBlocks) (p : Planes) → AreBlocksFrozenIfFound b p → b.is_found ≡ true →
    HasRoomForAllBlockMarks b p
room_found b p f e = ∥∥₁_elim f (room_prop b p) (λ h. (h e).room)
  where
    room_prop : (b : FrozenBlocks) (p : Planes) → IsProp (HasRoomForAllBlockMarks b p)
    room_prop b p = Prim.hlevel props

-- they are the same blocks whether they are known to be frozen or not
pub found_again : (b : FrozenBlocks) (v : Bool) (p : Planes) → AreMarkedBlocksFrozen b p →
    AreMarkedBlocksFrozen (record b { is_found = v }) p
found_again b v p f = grind (arith, common_steps)

-- ---- a cell of a block of the odd partition that is not frozen changes
pub freezes_put : (main anti : Bool) (u : ℕ) (b : FrozenBlocks) (p q : Planes) →
    HasWordsStrideRows p.words p.stride p.rows q → ChangesOnlyDiagonals main anti (block_at Odd p.stride u) p q →
    (b.is_found ≡ true → IsNumberUnmarked b.marks.odd.items u) → AreBlocksFrozenIfFound b p → AreBlocksFrozenIfFound b q
freezes_put main anti u b p q size ch free frozen =
    ∥∥₁_map frozen (λ h e. frozen_on Odd b p q size (stay (free e)) none (h e))
  where
    stay : IsNumberUnmarked b.marks.odd.items u → MarkedStay Odd b.marks.odd.items p q
    stay unmarked n m = grind (arith, common_steps, false≢true, same_block)

    none : KeepsCellsOutsideBlocks Odd p q
    none = grind (arith, common_steps)

-- the blocks are frozen still, if they were not given up
pub given_up : (b b' : FrozenBlocks) (u : ℕ) (p : Planes) →
    (b'.is_found ≡ true → (b' ≡ b) × IsNumberUnmarked b.marks.odd.items u) → AreBlocksFrozenIfFound b p →
    AreBlocksFrozenIfFound b' p
given_up b b' u p kept f = ∥∥₁_map f (λ h e. grind (arith, common_steps))

-- ---- marks on all blocks but the frozen ones, and on all cells but those of the frozen and empty ones
pub active_stable : (b : FrozenBlocks) (m : BlockMarks) (p : Planes) → ArePlaneWordsInRange p →
    AreBlocksFrozenIfFound b p →
    b.is_found ≡ true → AreBlocksMarkedUnlessIn (p.stride * p.rows) b.marks m → AreUnmarkedBlocksStable m p
active_stable b m p words frozen e but part u is free =
    (found_stable part b p words frozen e).calm u is (but part u (count_below part p u is.0) free)

pub marked_stable : (m : BlockMarks) (p : Planes) → AreFirstBlocksMarked (p.stride * p.rows) m →
    AreUnmarkedBlocksStable m p
marked_stable m p all part u is free = absurd (all part u (count_below part p u is.0) free)

dead_cell : (w u : ℕ) (cells : List ℕ) → ((k : ℕ) → get_or cells k 0 < 2 ^ 64) →
    HasValueUnderEachAssignment false w (cell_word_bit w cells u) → IsDeadCell w u cells
dead_cell w u cells small dead k l = zero_word (get_or cells (w * u + k) 0) (small (w * u + k)) (λ j h. dead k j l h)

dead_but : (b : FrozenBlocks) (l : LiveMarks) (p : Planes) → ArePlaneWordsInRange p → AreMarkedBlocksFrozen b p →
    AreCellsMarkedUnlessInBoth (p.stride * p.rows) b.marks.odd.items b.empty.items l → AreAllUnmarkedCellsDead l p
dead_but b l p words f but = grind (arith, common_steps, dead_cell)

pub dead_found : (b : FrozenBlocks) (l : LiveMarks) (p : Planes) → ArePlaneWordsInRange p → AreBlocksFrozenIfFound b p →
    b.is_found ≡ true →
    (HasRoomForAllBlockMarks b p → AreCellsMarkedUnlessInBoth (p.stride * p.rows) b.marks.odd.items b.empty.items l) →
    AreAllUnmarkedCellsDead l p
dead_found b l p words f e but =
    ∥∥₁_elim f (AreAllUnmarkedCellsDead-prop l p) (λ h. dead_but b l p words (h e) (but (h e).room))
