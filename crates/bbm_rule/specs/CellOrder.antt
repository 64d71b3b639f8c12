-- The order of cells
use Rattle.std.specs.declared.cmp.Ordering.{Ordering}
use Rattle.std.specs.Ordering.{int_cmp, ordering_then}
use Rattle.bbm_rule.specs.declared.block.Cell.{Cell}

-- by y, then x
unfoldable pub cell_cmp : Cell → Cell → Ordering
cell_cmp a b = ordering_then (int_cmp a.y b.y) (int_cmp a.x b.x)
