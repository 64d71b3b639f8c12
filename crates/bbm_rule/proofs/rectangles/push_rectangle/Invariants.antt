use Rattle.bbm_rule.proofs.Imports.{◌-◌, ◌≡◌}
use Rattle.bbm_rule.specs.CellLists.{row_cells}
use Rattle.lemmas.proofs.Common.{flat_map, range_with_len, ◌++◌}
use Rattle.bbm_rule.proofs.rectangles.push_rectangle.Given as goal

abbrev pub invariant-loop-row : goal.invariant-loop-row
invariant-loop-row l = l.out.items
    ≡ l.fn.out.items ++ flat_map (λ y. row_cells l.fn.r.x l.fn.r.w y) (range_with_len l.fn.r.y (l.row - l.fn.r.y))
