use Rattle.bbm_rule.proofs.Imports.{◌-◌, ◌≡◌}
use Rattle.bbm_rule.specs.CellLists.{row_cells}
use Rattle.lemmas.proofs.Common.{◌++◌}
use Rattle.bbm_rule.proofs.rectangles.push_row_cells.Given as goal

abbrev pub invariant-loop-column : goal.invariant-loop-column
invariant-loop-column l = l.out.items ≡ l.fn.out.items ++ row_cells l.x (l.column - l.x) l.y
