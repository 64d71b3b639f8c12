-- The meaning of the words behind the keyword of an edge, halo or stop line
use Rattle.std.specs.Prelude.{ℕ, List, [], ◌∷◌, codes, Option, Some, None, if◌then◌else◌}
use Rattle.std.specs.Str.{bytes_eq}
use Rattle.section_text.specs.Words.{number_of, name_of, ◌>>=◌}

-- the time that a word is, with `*` for every odd time
unfoldable pub star_or_time_from_word : List ℕ → Option (Option ℕ)
star_or_time_from_word w = if bytes_eq w (codes "*") then Some None else (number_of w >>= λ t. Some (Some t))

-- the signal that a word is: `1`, or a name
unfoldable pub one_or_name_from_word : List ℕ → Option (Option (List ℕ))
one_or_name_from_word w = if bytes_eq w (codes "1") then Some None else (name_of w >>= λ n. Some (Some n))

-- the time that the first of several words is, and the words behind it
unfoldable pub leading_star_or_time : List (List ℕ) → Option (Option ℕ × List (List ℕ))
leading_star_or_time [] = None
leading_star_or_time (word ∷ []) = None
leading_star_or_time (word ∷ next ∷ others) = star_or_time_from_word word >>= λ t. Some (t, next ∷ others)

-- the signal of a line of one word
unfoldable pub one_or_name_of_one_word : List (List ℕ) → Option (Option (List ℕ))
one_or_name_of_one_word [] = None
one_or_name_of_one_word (word ∷ []) = one_or_name_from_word word
one_or_name_of_one_word (word ∷ next ∷ others) = None
