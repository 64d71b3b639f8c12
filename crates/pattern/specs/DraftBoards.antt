-- The lines whose cells are on a board.
use Rattle.std.specs.Prelude.{◌≡◌, ◌≤◌, true}
use Rattle.bbm_rule.specs.Board.{Board}
use Rattle.pattern.specs.declared.layout_line.LayoutLine.{LayoutLine}
use Rattle.pattern.specs.Lines.{is_inside}
use Rattle.lemmas.specs.Bounds.{max_side}

-- the cells of the line are on the board, whose sides are at most 4096
pub record LiesOnBoard (b : Board) (part : LayoutLine) : Type 0 where
  pub inside : is_inside (record { w = b.width; h = b.height; steps = 0 }) part ≡ true
  pub width : b.width ≤ max_side
  pub height : b.height ≤ max_side
