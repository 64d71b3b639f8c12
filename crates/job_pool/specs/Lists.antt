-- Lists of draws
use Rattle.std.specs.Prelude.{◌≡◌, ℕ, ◌+◌, ◌≤◌, max, nat_lt, if◌then◌else◌, List, [], ◌∷◌, ◌++◌, length, All}
use Rattle.core_book.specs.Draws.{IsEachNumberDrawnOnce}

-- how many of a list are n or more
abbrev pub count_at_least : ℕ → List ℕ → ℕ
count_at_least n [] = 0
count_at_least n (y ∷ ys) = (if nat_lt y n then 0 else 1) + count_at_least n ys

-- how many of a list are below n
abbrev pub count_less_than : ℕ → List ℕ → ℕ
count_less_than n [] = 0
count_less_than n (y ∷ ys) = (if nat_lt y n then 1 else 0) + count_less_than n ys

-- one more than the greatest of a list, and 0 for the empty list
abbrev pub past_greatest : List ℕ → ℕ
past_greatest [] = 0
past_greatest (y ∷ ys) = max (y + 1) (past_greatest ys)

-- a list without its last
abbrev pub all_but_last : List ℕ → List ℕ
all_but_last [] = []
all_but_last (y ∷ []) = []
all_but_last (y ∷ z ∷ zs) = y ∷ all_but_last (z ∷ zs)

-- lists end to end
abbrev pub joined : List (List ℕ) → List ℕ
joined [] = []
joined (xs ∷ xss) = xs ++ joined xss

-- the draws of the seats of a closed desk, a list for each, of which only the last draw may be n or more
pub record AreAllDraws (n seats counter : ℕ) (lists : List (List ℕ)) : Type 0 where
  pub count : length lists ≡ seats
  pub drawn : IsEachNumberDrawnOnce counter lists
  pub at_most : counter ≤ n + seats
  pub only_last : All (λ xs. past_greatest (all_but_last xs) ≤ n) lists
