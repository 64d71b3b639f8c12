-- The fields of a draft, and its view.
use Rattle.std.specs.Prelude.{◌≡◌, ℤ}
use Rattle.bbm_rule.specs.Board.{live}
use Rattle.pattern.specs.declared.draft.Draft.TheInside.{Inside}
use Rattle.pattern.specs.Layout.{Pattern, parts_of}
use Rattle.pattern.specs.Lines.{cells_taken_at_start, cells_taken_at_end}

-- the layout of the lines so far
abbrev pub pattern_of : Inside → Pattern
pattern_of a = a.layout

-- the grids have the size of the layout, and their live cells are those that are taken
pub record AreDraftFields (a : Inside) : Type 0 where
  pub begun_width : a.cells_taken_at_start.width ≡ a.layout.size.w
  pub begun_height : a.cells_taken_at_start.height ≡ a.layout.size.h
  pub ended_width : a.cells_taken_at_end.width ≡ a.layout.size.w
  pub ended_height : a.cells_taken_at_end.height ≡ a.layout.size.h
  pub cells_taken_at_start : (x y : ℤ) → live a.cells_taken_at_start x y ≡ cells_taken_at_start (parts_of a.layout) x y
  pub cells_taken_at_end : (x y : ℤ) → live a.cells_taken_at_end x y ≡ cells_taken_at_end (parts_of a.layout) x y
