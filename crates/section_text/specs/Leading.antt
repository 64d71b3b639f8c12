-- The number that a line of several words begins with.
use Rattle.std.specs.Prelude.{ℕ, List, [], ◌∷◌, Option, Some, None}
use Rattle.section_text.specs.Words.{number_of, ◌>>=◌}

-- the number that the first of several words is, and the words behind it
unfoldable pub leading_number : List (List ℕ) → Option (ℕ × List (List ℕ))
leading_number [] = None
leading_number (word ∷ []) = None
leading_number (word ∷ next ∷ others) = number_of word >>= λ n. Some (n, next ∷ others)
