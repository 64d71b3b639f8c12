-- The lines so far are printed.
use Rattle.pattern.proofs.Imports.{cell_words, flat_map, line_text, take, ◌++◌, ◌≡◌}
use Rattle.pattern.proofs.printing.print_cells.Given as goal

abbrev pub invariant-loop-cell : goal.invariant-loop-cell
invariant-loop-cell l = l.out.items
    ≡ l.fn.out.items ++ flat_map (λ c. line_text l.word (cell_words c)) (take l.cell-index l.cells)
