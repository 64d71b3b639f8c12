-- Whether some line of some module passes a test
use Rattle.certificate_lines.proofs.Imports.{Bool, List, [], ap, arith, common_steps, if◌then◌else◌, list_any}
use Rattle.certificate_lines.proofs.Imports.{list_any-append, refl, ◌&&◌, ◌||◌, ◌∙◌, ◌∷◌, ◌≡◌}
use Rattle.std.specs.List.{filter, flat_map}

passes_if : {A : Type 0} (test : A → Bool) (b : Bool) (x : A) (xs : List A) (more : Bool) → list_any test xs ≡ more →
    list_any test (if b then x ∷ xs else xs) ≡ ((b && test x) || more)
passes_if test b x xs more h1 = grind (arith, common_steps)

pub any_filter : {A : Type 0} (keep test : A → Bool) (xs : List A) →
    list_any test (filter keep xs) ≡ list_any (λ x. keep x && test x) xs
any_filter keep test [] = refl
any_filter keep test (x ∷ xs) =
    passes_if test (keep x) x (filter keep xs) (list_any (λ y. keep y && test y) xs) (any_filter keep test xs)

module _ {A X : Type 0} (test : A → Bool) (f : X → List A) where
  pub any_flat : (xs : List X) → list_any test (flat_map f xs) ≡ list_any (λ x. list_any test (f x)) xs
  any_flat [] = refl
  any_flat (x ∷ xs) = list_any-append test (f x) (flat_map f xs) ∙ ap (λ b. list_any test (f x) || b) (any_flat xs)
