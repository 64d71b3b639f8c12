-- The fields of a grid, and its view
use Rattle.std.specs.Prelude.{◌≡◌, false, ℕ, ◌+◌, ◌*◌, ◌/◌, ◌%◌, ◌<◌, ◌≤◌, List, length, map}
use Rattle.std.specs.List.{range_with_len}
use Rattle.bbm_rule.specs.declared.grid.Grid.TheInside.{Inside}
use Rattle.bbm_rule.specs.Board.{Board}
use Rattle.bbm_rule.specs.Bands.{AreUnmarkedRowPairsStable}
use Rattle.bbm_rule.specs.Rows.{cell_at, is_board_cell}
use Rattle.lemmas.specs.Bounds.{max_side}

-- the board of words in rows of s cells, with a margin of one cell
abbrev pub board : ℕ → ℕ → ℕ → List ℕ → Board
board w h s words = record {
  width = w;
  height = h;
  cells = map (λ n. cell_at words (s * (n / w + 1) + (n % w + 1))) (range_with_len 0 (w * h));
}

-- the board of a grid
abbrev pub board_of : Inside → Board
board_of g = board g.width g.height (64 * g.stride) g.words.items

-- what the fields of every grid meet: the margin, and the bits of a row beyond it, are dead, and pairs of rows without
-- a mark stay
pub record AreGridFields (g : Inside) : Type 0 where
  pub width : (2 ≤ g.width) × (g.width ≤ max_side) × (g.width % 2 ≡ 0)
  pub height : (2 ≤ g.height) × (g.height ≤ max_side) × (g.height % 2 ≡ 0)
  pub stride : g.stride ≡ g.width / 64 + 1
  pub words : length g.words.items ≡ g.stride * (g.height + 2)
  pub margin : (x y : ℕ) → x < 64 * g.stride → is_board_cell g.width g.height x y ≡ false →
      cell_at g.words.items (64 * g.stride * y + x) ≡ false
  pub even_room : g.height / 2 + 1 ≤ 64 * length g.even_marks.items
  pub odd_room : g.height / 2 + 1 ≤ 64 * length g.odd_marks.items
  pub even_calm : AreUnmarkedRowPairsStable (64 * g.stride + 1) (64 * g.stride)
      (g.height / 2) g.even_marks.items g.words.items
  pub odd_calm : AreUnmarkedRowPairsStable 0 (64 * g.stride) (g.height / 2 + 1) g.odd_marks.items g.words.items
