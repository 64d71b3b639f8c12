-- The names of a set after one more.
use Rattle.pattern.proofs.Imports.{Bool, List, [], arith, cases_Bool, common_steps, false, get_or, has, length}
use Rattle.pattern.proofs.Imports.{list_any-append, or_last, suc, true, zero, ℕ, ◌++◌, ◌<◌, ◌||◌, ◌∙◌, ◌∷◌, ◌≡◌}
use Rattle.lemmas.proofs.Common.{bytes_eq, bytes_eq-Decides}

pub has_push : (d : List (List ℕ)) (m n : List ℕ) → has (d ++ m ∷ []) n ≡ (has d n || bytes_eq n m)
has_push d m n = list_any-append (bytes_eq n) d (m ∷ []) ∙ or_last (has d n) (bytes_eq n m)

or_true : (a b : Bool) → a ≡ true → a ≡ (a || b)
or_true a b e = grind arith

or_false : (a b : Bool) → b ≡ false → a ≡ (a || b)
or_false a b e = grind arith

pub has_again : (d : List (List ℕ)) (m n : List ℕ) → has d m ≡ true → has d n ≡ (has d n || bytes_eq n m)
has_again d m n h = grind (arith, common_steps, cases_Bool, or_true, bytes_eq-Decides, or_false)

pub has_at : (d : List (List ℕ)) (i : ℕ) (m n : List ℕ) → i < length d → m ≡ get_or d i [] → bytes_eq m n ≡ true →
    has d n ≡ true
has_at [] i m n below at same = absurd (omega (arith, below))
has_at (x ∷ d) zero m n below at same = grind (arith, common_steps, bytes_eq-Decides)
has_at (x ∷ d) (suc i) m n below at same =
    or_right_true (bytes_eq n x) (has d n) (has_at d i m n (omega (arith, below)) at same)
  where
    or_right_true : (a b : Bool) → b ≡ true → (a || b) ≡ true
    or_right_true a b e = grind arith
