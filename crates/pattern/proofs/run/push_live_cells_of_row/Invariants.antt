use Rattle.pattern.proofs.Imports.{live, row_cells, ◌++◌, ◌≡◌}
use Rattle.lemmas.proofs.Common.{filter}
use Rattle.pattern.proofs.run.push_live_cells_of_row.Given as goal

abbrev pub invariant-loop-x : goal.invariant-loop-x
invariant-loop-x l = l.out.items ≡ l.fn.out.items ++ filter (λ c. live l.fn.grid c.x c.y) (row_cells 0 l.x l.y)
