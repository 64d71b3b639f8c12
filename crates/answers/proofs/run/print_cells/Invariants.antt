-- The cells so far are printed.
use Rattle.lemmas.proofs.Common.{◌++◌, ◌≡◌, flat_map, take}
use Rattle.answers.specs.RunText.{live_cell_line}
use Rattle.answers.proofs.run.print_cells.Given as goal

abbrev pub invariant-loop-cell : goal.invariant-loop-cell
invariant-loop-cell l = l.out.items ≡ l.fn.out.items ++ flat_map live_cell_line (take l.cell-index l.cells)
