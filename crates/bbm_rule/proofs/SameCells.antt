-- Cells that are the same.
use Rattle.bbm_rule.proofs.Imports.{and_parts, arith, common_steps, true, ◌≡◌}
use Rattle.bbm_rule.specs.Plane.{is_cell_at}
use Rattle.bbm_rule.specs.declared.block.Cell.{Cell}

pub cell_same : (c d : Cell) → is_cell_at c d.x d.y ≡ true → c ≡ d
cell_same c d h = grind (arith, common_steps, and_parts)

pub cell_itself : (c : Cell) → is_cell_at c c.x c.y ≡ true
cell_itself c = grind (arith, common_steps)
