-- None of the cells so far is taken.
use Rattle.bbm_rule.proofs.Imports.{false, live, ◌≡◌}
use Rattle.lemmas.proofs.Common.{list_any, take}
use Rattle.bbm_rule.proofs.rectangles.is_any_live.Given as goal

abbrev pub invariant-loop-cell : goal.invariant-loop-cell
invariant-loop-cell l = list_any (λ c. live l.grid c.x c.y) (take l.cell-index l.cells) ≡ false
