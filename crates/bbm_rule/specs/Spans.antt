-- Whole numbers in a row, and cells in a rectangle
use Rattle.std.specs.Prelude.{ℕ, ℤ, pos, ◌+◌, ◌&&◌, Bool, int_le, int_lt}

-- whether x is one of the n numbers from `from` on
unfoldable pub in_span : ℕ → ℕ → ℤ → Bool
in_span from n x = int_le (pos from) x && int_lt x (pos (from + n))

-- whether the cell (x, y) is in the rectangle with this upper left corner, so wide and so high
abbrev pub in_area : ℕ → ℕ → ℕ → ℕ → ℤ → ℤ → Bool
in_area left top width height x y = in_span left width x && in_span top height y
