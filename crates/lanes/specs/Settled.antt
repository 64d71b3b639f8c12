-- Numbers of cells that have not changed since the last odd step
use Rattle.std.specs.Prelude.{◌≡◌, true, ℕ, ◌+◌, ◌*◌, ◌/◌, ◌<◌}
use Rattle.bbm_rule.specs.Marks.{IsNumberUnmarked}
use Rattle.lanes.specs.Lanes.{lane}
use Rattle.lanes.specs.declared.marked_planes.MarkedPlanes.{MarkedPlanes}
use Rattle.lanes.specs.declared.planes.Planes.{Planes}

-- the cells with this number, one in each plane, are the same in both under each assignment
pub record AreCellsSameAtNumber (u : ℕ) (p q : Planes) : Type 0 where
  pub words : q.words ≡ p.words
  pub stride : q.stride ≡ p.stride
  pub cells : (a x y : ℕ) → a < 64 * p.words → x / 2 < p.stride → p.stride * (y / 2) + x / 2 ≡ u →
      lane q a x y ≡ lane p a x y

-- the block of the odd partition with these cells has no mark, and no even step since the last odd step turned whole
-- planes
abbrev pub IsBlockSettled : MarkedPlanes → ℕ → Type 0
IsBlockSettled m u = (m.is_settled ≡ true) × IsNumberUnmarked m.block_marks.odd.items u

-- the numbers that are settled were so before, and their cells are the same
abbrev pub AreSettledBlocksUnchanged : MarkedPlanes → MarkedPlanes → Type 0
AreSettledBlocksUnchanged m m' =
    (u : ℕ) → IsBlockSettled m' u → IsBlockSettled m u × AreCellsSameAtNumber u m.planes m'.planes
