-- The limits of a text, which its first line chooses.
use Rattle.std.specs.Prelude.{ℕ, Bool, false, List, [], ◌∷◌, codes, if◌then◌else◌, take}
use Rattle.std.specs.Str.{bytes_eq}
use Rattle.section_text.specs.declared.limits.Limits.{Limits}
use Rattle.section_text.specs.declared.limits.Limits.TheVariants.{First, Second}
use Rattle.lemmas.specs.Bounds.{max_gates, max_modules, max_side, max_steps, max_text, max_wires}

-- how many wires a circuit may have
abbrev pub most_wires : Limits → ℕ
most_wires First = 4096
most_wires Second = max_wires

-- how many gates a circuit may have, sources among them
abbrev pub most_gates : Limits → ℕ
most_gates First = 1024
most_gates Second = max_gates

-- how wide and how high a layout or a mirror may be, in cells
abbrev pub most_side : Limits → ℕ
most_side First = 512
most_side Second = max_side

-- how many steps a layout may have
abbrev pub most_steps : Limits → ℕ
most_steps First = 65536
most_steps Second = max_steps

-- how many modules a certificate may have
abbrev pub most_modules : Limits → ℕ
most_modules First = 1024
most_modules Second = max_modules

-- how many bytes a text may have, the line `limits 2` included
abbrev pub most_bytes : Limits → ℕ
most_bytes First = 16777216
most_bytes Second = max_text

-- ---- the first line

-- whether the first of these lines is this one
abbrev pub begins_with_line : List ℕ → List (List ℕ) → Bool
begins_with_line line [] = false
begins_with_line line (first ∷ rest) = bytes_eq first line

-- the limits of a text of these lines
abbrev pub limits_of : List (List ℕ) → Limits
limits_of lines = if begins_with_line (codes "limits 2") lines then Second else First

-- how many lines before the first section say so
abbrev pub limits_line_count : Limits → ℕ
limits_line_count First = 0
limits_line_count Second = 1

-- ---- the first bytes

-- the line that chooses the second limits, with its line feed
abbrev pub limits_line_bytes : List ℕ
limits_line_bytes = codes "limits 2\n"

-- the most bytes of this text, by its first nine
abbrev pub own_text_limit : List ℕ → ℕ
own_text_limit text = most_bytes (if bytes_eq (take 9 text) limits_line_bytes then Second else First)
