-- The spelling of a line.
use Rattle.std.specs.Prelude.{ℕ, List, [], ◌∷◌, ◌++◌}
use Rattle.std.specs.List.{flat_map}

-- a word behind a space
abbrev pub space_and_word : List ℕ → List ℕ
space_and_word word = 32 ∷ word

-- a line: its first word, the others, and a line feed
abbrev pub line_text : List ℕ → List (List ℕ) → List ℕ
line_text word words = (word ++ flat_map space_and_word words) ++ 10 ∷ []
