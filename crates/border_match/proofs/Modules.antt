-- Lists of which each element has a property
use Rattle.border_match.proofs.Imports.{List, Some, [], arith, common_steps, length, slice_get, ℕ, ◌++◌, ◌∷◌, ◌≡◌}
use Rattle.module_box.proofs.Rising.{pushed}

-- what holds of each element by its number holds with one more
pub pushed_more : {A : Type 0} (P : ℕ → A → Type 0) (xs ys : List A) (k : ℕ) (x : A) → length xs ≡ k →
    ys ≡ xs ++ x ∷ [] → ((i : ℕ) (a : A) → slice_get xs i ≡ Some a → P i a) → P k x →
    (i : ℕ) (a : A) → slice_get ys i ≡ Some a → P i a
pushed_more P xs ys k x len grown before here i a e = grind (arith, common_steps, pushed)
