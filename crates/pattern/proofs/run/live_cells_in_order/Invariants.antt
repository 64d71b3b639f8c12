use Rattle.pattern.proofs.Imports.{filter, live, range_with_len, row_cells, ◌≡◌}
use Rattle.std.specs.List.{flat_map}
use Rattle.pattern.proofs.run.live_cells_in_order.Given as goal

abbrev pub invariant-loop-y : goal.invariant-loop-y
invariant-loop-y l = l.cells.items
    ≡ filter (λ c. live l.fn.grid c.x c.y) (flat_map (λ y. row_cells 0 l.fn.size.w y) (range_with_len 0 l.y))
