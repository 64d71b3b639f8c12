-- The places of the cells of a box
use Rattle.std.specs.Prelude.{ℕ, ℤ, ◌+◌, ◌-◌, ◌*◌}
use Rattle.std.specs.Int.RustNames.{unsigned_abs}
use Rattle.bbm_rule.specs.declared.block.Box2.{Box2}

-- the place of the cell (x, y) of a box, whose cells are counted row by row
abbrev pub place_in : Box2 → ℤ → ℤ → ℕ
place_in b x y = (unsigned_abs y - b.y) * b.w + (unsigned_abs x - b.x)
