-- A cell at a time, in the order of time, y and x
use Rattle.std.specs.declared.cmp.Ordering.{Ordering}
use Rattle.std.specs.Ordering.{nat_cmp, ordering_then}
use Rattle.bbm_rule.specs.CellOrder.{cell_cmp}
use Rattle.module_box.specs.declared.schedules.Moment.{Moment}

-- by time, y and x
unfoldable pub moment_cmp : Moment → Moment → Ordering
moment_cmp a b = ordering_then (nat_cmp a.time b.time) (cell_cmp a.cell b.cell)
