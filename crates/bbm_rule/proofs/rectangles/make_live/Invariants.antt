-- The cells so far are live.
use Rattle.bbm_rule.proofs.Imports.{live, ℤ, ◌||◌, ◌≡◌}
use Rattle.bbm_rule.specs.Board.{HasSameSize}
use Rattle.bbm_rule.specs.CellLists.{in_cells}
use Rattle.lemmas.proofs.Common.{take}
use Rattle.bbm_rule.proofs.rectangles.make_live.Given as goal

abbrev pub invariant-loop-cell : goal.invariant-loop-cell
invariant-loop-cell l =
    ((x y : ℤ) → live l.grid x y ≡ (live l.fn.grid x y || in_cells (take l.cell-index l.cells) x y))
    × HasSameSize l.fn.grid l.grid
