-- Elements of lists, by their places.
use Rattle.certificate_lines.proofs.Imports.{Bool, List, Option, Some, [], inl, inr, list_any, or_cases, or_right, refl}
use Rattle.certificate_lines.proofs.Imports.{slice_get, suc, true, zero, ℕ, ◌∷◌, ◌≡◌}
pub use Rattle.module_box.proofs.Rising.{kept}

pub some_is : {A : Type 0} (a b : A) → ◌≡◌ {A = Option A} (Some a) (Some b) → a ≡ b
some_is a b e = cc

-- an element that passes a test
pub record IsPassed {A : Type 0} (test : A → Bool) (xs : List A) : Type 0 where
  pub place : ℕ
  pub element : A
  pub stands : slice_get xs place ≡ Some element
  pub passes : test element ≡ true

number_with_port_in_front : {A : Type 0} (test : A → Bool) (x : A) (xs : List A) → IsPassed test xs →
    IsPassed test (x ∷ xs)
number_with_port_in_front test x xs p =
    record { place = suc p.place; element = p.element; stands = p.stands; passes = p.passes }

pub passed : {A : Type 0} (test : A → Bool) (xs : List A) → list_any test xs ≡ true → IsPassed test xs
passed test [] h = absurd cc
passed test (x ∷ xs) h = elim (or_cases (test x) (list_any test xs) h) [
  | inl here ↦ record { place = 0; element = x; stands = refl; passes = here }
  | inr later ↦ number_with_port_in_front test x xs (passed test xs later)
]

pub any_at : {A : Type 0} (test : A → Bool) (xs : List A) (i : ℕ) (a : A) → slice_get xs i ≡ Some a → test a ≡ true →
    list_any test xs ≡ true
any_at test [] i a e h = absurd cc
any_at test (x ∷ xs) zero a e h = rw (some_is x a e, h) refl
any_at test (x ∷ xs) (suc i) a e h = or_right (test x) (list_any test xs) (any_at test xs i a e h)
