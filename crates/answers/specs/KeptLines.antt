-- The lines of a certificate that its migration keeps.
use Rattle.std.specs.Prelude.{ℕ, Bool, false, ◌==◌, not, List, [], ◌∷◌, if◌then◌else◌}

-- whether a line begins with `h`, as halo lines do, and no other line of a certificate
abbrev pub begins_with_h : List ℕ → Bool
begins_with_h [] = false
begins_with_h (byte ∷ bytes) = byte == 104

-- the lines that do not
unfoldable pub lines_not_beginning_with_h : List (List ℕ) → List (List ℕ)
lines_not_beginning_with_h [] = []
lines_not_beginning_with_h (line ∷ lines) =
    if not (begins_with_h line) then line ∷ lines_not_beginning_with_h lines else lines_not_beginning_with_h lines

-- a line with its line feed, or nothing if it begins so
abbrev pub line_unless_begins_with_h : List ℕ → List ℕ
line_unless_begins_with_h line = if begins_with_h line then [] else line
