-- Numbers that were drawn, as lists
use Rattle.std.specs.Prelude.{◌≡◌, ℕ, ◌+◌, ◌==◌, nat_lt, if◌then◌else◌, List, [], ◌∷◌, length}

-- f of each, added up
abbrev pub total : {X : Type 0} → (X → ℕ) → List X → ℕ
total f [] = 0
total f (x ∷ xs) = f x + total f xs

-- how often x is in a list
abbrev pub occurrences : ℕ → List ℕ → ℕ
occurrences x [] = 0
occurrences x (y ∷ ys) = (if y == x then 1 else 0) + occurrences x ys

-- 1 for a number below n, and else 0
abbrev pub one_if_below : ℕ → ℕ → ℕ
one_if_below x n = if nat_lt x n then 1 else 0

-- one more than the last of a list, and 0 for the empty list
abbrev pub past_last : List ℕ → ℕ
past_last [] = 0
past_last (y ∷ []) = y + 1
past_last (y ∷ z ∷ zs) = past_last (z ∷ zs)

-- The lists have as many numbers as the counter says: each number below it is in one list, once, and no other is in
-- any.
pub record IsEachNumberDrawnOnce (counter : ℕ) (lists : List (List ℕ)) : Type 0 where
  pub whole : total length lists ≡ counter
  pub once : (x : ℕ) → total (occurrences x) lists ≡ one_if_below x counter
