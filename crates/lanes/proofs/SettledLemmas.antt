-- Numbers whose cells have not changed since the last odd step
use Rattle.lanes.proofs.Imports.{AreUnmarkedBlocksStable, BlockMarks, BlockPlaces, Bool, ChangesOnlyDiagonals, Even}
use Rattle.lanes.proofs.Imports.{HasWordsStrideRows, IsBlockStable, IsNumberUnmarked, Odd, Partition, Planes, arith}
use Rattle.lanes.proofs.Imports.{block_at, by_eq_or_not, common_steps, inl, inr, lane, mul-le-mul_left, refl, turned, ℕ}
use Rattle.lanes.proofs.Imports.{◌*◌, ◌+◌, ◌/◌, ◌<◌, ◌∙◌, ◌≡◌}
use Rattle.bbm_rule.proofs.BlockRuns.{mate_lt}
use Rattle.bbm_rule.proofs.PlaneLemmas.{mate_twice, turned_twice}
use Rattle.bbm_rule.specs.Rows.{paired_place}
use Rattle.lanes.specs.Blocks.{ShareNoChangingCell}
use Rattle.lanes.specs.Calm.{UnmarksAtMostBlock}
use Rattle.lanes.specs.Lanes.{TurnsCellsOfPartition}
use Rattle.lanes.specs.Settled.{AreCellsSameAtNumber, AreSettledBlocksUnchanged}
use Rattle.lanes.specs.declared.marked_planes.MarkedPlanes.{MarkedPlanes}
use Rattle.lanes.proofs.CalmLemmas.{odd_even}
use Rattle.lanes.proofs.LaneLemmas.{block_lane}
use Rattle.lanes.proofs.PlaneWords.{plane_down, plane_even, plane_odd, plane_right}
use Rattle.lanes.proofs.TurnLemmas.{calm_turned}

-- nothing changes
pub same_number : (u : ℕ) (p : Planes) → AreCellsSameAtNumber u p p
same_number u p = record { words = refl; stride = refl; cells = λ a x y la lx e. refl }

-- nothing changes twice
pub same_number_twice : (u : ℕ) (p q r : Planes) → AreCellsSameAtNumber u p q → AreCellsSameAtNumber u q r →
    AreCellsSameAtNumber u p r
same_number_twice u p q r e f = grind (arith, common_steps)

pub settled_once : (m : MarkedPlanes) → AreSettledBlocksUnchanged m m
settled_once m u is = (is, same_number u m.planes)

-- what is settled after two changes was so before both
pub settled_twice : (m m' m'' : MarkedPlanes) → AreSettledBlocksUnchanged m m' → AreSettledBlocksUnchanged m' m'' →
    AreSettledBlocksUnchanged m m''
settled_twice m m' m'' first second u is =
    let s = second u is in
    let f = first u s.0 in
    (f.0, same_number_twice u m.planes m'.planes m''.planes f.1 s.1)

-- the marks of the odd partition stay if one of the even partition is taken off
pub odd_marks_kept : (part : Partition) (at : ℕ) (m m' : BlockMarks) → part ≡ Even → UnmarksAtMostBlock part at m m' →
    (u : ℕ) → IsNumberUnmarked m'.odd.items u → IsNumberUnmarked m.odd.items u
odd_marks_kept part at m m' even unmarks u free = elim (unmarks Odd u free) [
  | inl old ↦ old
  | inr e ↦ absurd (odd_even (e.0 ∙ even))
]

-- a cell stays if it is on no diagonal that changes
kept_lane : (main anti : Bool) (b : BlockPlaces) (p q : Planes) (u a x y : ℕ) →
    HasWordsStrideRows p.words p.stride p.rows q → ChangesOnlyDiagonals main anti b p q →
    ShareNoChangingCell main anti (block_at Odd p.stride u) b → a < 64 * p.words → p.stride * (y / 2) + x / 2 ≡ u →
    lane q a x y ≡ lane p a x y
unfolding lane
kept_lane main anti b p q u a x y size ch none la at =
    grind (arith, common_steps, by_eq_or_not, plane_odd, plane_down, plane_right, plane_even)

-- the cells of a number stay if they are on none
pub kept_number : (main anti : Bool) (b : BlockPlaces) (p q : Planes) (u : ℕ) →
    HasWordsStrideRows p.words p.stride p.rows q → ChangesOnlyDiagonals main anti b p q →
    ShareNoChangingCell main anti (block_at Odd p.stride u) b → AreCellsSameAtNumber u p q
kept_number main anti b p q u size ch none = record {
  words = size.0;
  stride = size.1;
  cells = λ a x y la lx at. kept_lane main anti b p q u a x y size ch none la at;
}

-- a cell whose block stays is what a turn makes of it
stays_turned : (q : Planes) (u a x y : ℕ) → IsBlockStable (block_at Odd q.stride u) q → a < 64 * q.words →
    q.stride * (y / 2) + x / 2 ≡ u →
    lane q a x y ≡ turned (lane q a x y) (lane q a (paired_place x) (paired_place y)) (lane q a (paired_place x) y)
    (lane q a x (paired_place y))
stays_turned q u a x y stable la at = block_lane q q a x y (refl, refl, refl)
    (rw at (calm_turned _ _ _ _ (stable.0 (a / 64) (omega arith)) (stable.1 (a / 64) (omega arith))))

-- the row of a cell whose number is small
row_below : (s r i y u : ℕ) → s * (y / 2) + i ≡ u → u < s * r → y < 2 * r
row_below s r i y u at within = grind (arith, common_steps, mul-le-mul_left)

-- a block that stays after all were turned did not change, since a turn undoes itself
pub same_after_turn : (m : BlockMarks) (p q : Planes) (u : ℕ) → HasWordsStrideRows p.words p.stride p.rows q →
    TurnsCellsOfPartition Odd p q → AreUnmarkedBlocksStable m q → u < p.stride * p.rows →
    IsNumberUnmarked m.odd.items u → AreCellsSameAtNumber u p q
same_after_turn m p q u size turns calm within free = grind (arith, common_steps, same)
  where
    stable : IsBlockStable (block_at Odd q.stride u) q
    stable = calm Odd u (rw (size.1, size.2) within, λ e. absurd (odd_even e)) free

    same : (a x y : ℕ) → a < 64 * p.words → x / 2 < p.stride → p.stride * (y / 2) + x / 2 ≡ u →
        lane q a x y ≡ lane p a x y
    same a x y la lx at =
        let words = size.0 in
        let stride = size.1 in
        let lx' : x < 2 * p.stride = omega arith in
        let ly' : y < 2 * p.rows = row_below p.stride p.rows (x / 2) y u at within in
        let mx = mate_lt x (2 * p.stride) (omega arith) lx' in
        let my = mate_lt y (2 * p.rows) (omega arith) ly' in
        let own = turns a x y la lx' ly' in
        let opposite = turns a (paired_place x) (paired_place y) la mx my in
        let across = turns a (paired_place x) y la mx ly' in
        let down = turns a x (paired_place y) la lx' my in
        let opposite = rw (mate_twice x, mate_twice y) at opposite in
        let across = rw (mate_twice x) at across in
        let down = rw (mate_twice y) at down in
        stays_turned q u a x y stable (rw words la) (rw stride at) ∙ rw (own, opposite, across, down)
        (turned_twice _ _ _ _)
