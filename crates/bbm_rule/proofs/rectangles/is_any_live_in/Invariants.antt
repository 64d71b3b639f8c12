-- What was found in the rows so far.
use Rattle.bbm_rule.proofs.Imports.{live, ◌-◌, ◌≡◌}
use Rattle.bbm_rule.specs.CellLists.{row_cells}
use Rattle.lemmas.proofs.Common.{flat_map, list_any, range_with_len}
use Rattle.bbm_rule.proofs.rectangles.is_any_live_in.Given as goal

abbrev pub invariant-loop-y : goal.invariant-loop-y
invariant-loop-y l = l.found ≡ list_any (λ c. live l.grid c.x c.y)
    (flat_map (row_cells l.r.x l.r.w) (range_with_len l.r.y (l.y - l.r.y)))
