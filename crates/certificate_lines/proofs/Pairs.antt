-- Lists in which each element stands as it should to every later one.
use Rattle.certificate_lines.proofs.Imports.{All, All-tail, List, Some, [], ap, arith, common_steps, flat_map, map}
use Rattle.certificate_lines.proofs.Imports.{option_map, slice_get, slice_get-map, subst, suc, zero, ℕ, ◌++◌, ◌<◌, ◌∙◌}
use Rattle.certificate_lines.proofs.Imports.{◌∷◌, ◌≡◌}
use Rattle.std.specs.declared.cmp.Ordering.{Ordering}
use Rattle.std.specs.declared.cmp.Ordering.TheVariants.{Less}
use Rattle.module_box.specs.Schedules.{IsRising}
use Rattle.certificate_lines.proofs.Lists.{some_is}

unfoldable pub Each : {A : Type 0} → (A → Type 0) → List A → Type 0
Each P [] = Unit {0}
Each P (x ∷ xs) = P x × Each P xs

unfoldable pub Pairs : {A : Type 0} → (A → A → Type 0) → List A → Type 0
Pairs R [] = Unit {0}
Pairs R (x ∷ xs) = Each (R x) xs × Pairs R xs

pub each_map : {A : Type 0} (P Q : A → Type 0) → ((a : A) → P a → Q a) → (xs : List A) → Each P xs → Each Q xs
unfolding Each
each_map P Q h [] e = e
each_map P Q h (x ∷ xs) e = (h x e.0, each_map P Q h xs e.1)

pub each_append : {A : Type 0} (P : A → Type 0) (xs ys : List A) → Each P xs → Each P ys → Each P (xs ++ ys)
unfolding Each
each_append P [] ys e f = f
each_append P (x ∷ xs) ys e f = (e.0, each_append P xs ys e.1 f)

pub each_flat : {A B : Type 0} (P : A → Type 0) (Q : B → Type 0) (f : A → List B) → ((a : A) → P a → Each Q (f a)) →
    (xs : List A) → Each P xs → Each Q (flat_map f xs)
unfolding Each
each_flat P Q f h [] e = e
each_flat P Q f h (x ∷ xs) e = each_append Q (f x) (flat_map f xs) (h x e.0) (each_flat P Q f h xs e.1)

pub each_at : {A : Type 0} (P : A → Type 0) (xs : List A) → Each P xs → (i : ℕ) (a : A) → slice_get xs i ≡ Some a → P a
unfolding Each
each_at P [] e i a s = absurd cc
each_at P (x ∷ xs) e zero a s = subst P (some_is x a s) e.0
each_at P (x ∷ xs) e (suc i) a s = each_at P xs e.1 i a s

pub pairs_append : {A : Type 0} (R : A → A → Type 0) (xs ys : List A) → Pairs R xs → Pairs R ys →
    Each (λ x. Each (R x) ys) xs → Pairs R (xs ++ ys)
unfolding Each Pairs
pairs_append R [] ys p q h = q
pairs_append R (x ∷ xs) ys p q h = (each_append (R x) xs ys p.0 h.0, pairs_append R xs ys p.1 q h.1)

each_swap : {A B : Type 0} (P : A → Type 0) (Q : A → B → Type 0) (bs : List B) →
    ((a : A) → P a → Each (Q a) bs) → Each (λ b. (a : A) → P a → Q a b) bs
unfolding Each
each_swap P Q [] h = tt
each_swap P Q (b ∷ bs) h = ((λ a p. (h a p).0), each_swap P Q bs (λ a p. (h a p).1))

pub pairs_flat : {A B : Type 0} (R : A → A → Type 0) (S : B → B → Type 0) (f : A → List B) →
    ((x y : A) → R x y → Each (λ b. Each (S b) (f y)) (f x)) → ((x : A) → Pairs S (f x)) →
    (xs : List A) → Pairs R xs → Pairs S (flat_map f xs)
unfolding Pairs
pairs_flat R S f between alone [] p = p
pairs_flat R S f between alone (x ∷ xs) p =
    let beside = each_swap (R x) (λ y b. Each (S b) (f y)) (f x) (between x) in
    grind (arith, common_steps, pairs_flat R S f between alone xs p.1, pairs_append, each_map, each_flat)

pub pairs_at : {A : Type 0} (R : A → A → Type 0) (xs : List A) → Pairs R xs → (i j : ℕ) (a b : A) → i < j →
    slice_get xs i ≡ Some a → slice_get xs j ≡ Some b → R a b
unfolding Pairs
pairs_at R [] p i j a b lt ea eb = absurd cc
pairs_at R (x ∷ xs) p zero zero a b lt ea eb = absurd (omega (arith, lt))
pairs_at R (x ∷ xs) p zero (suc j) a b lt ea eb = subst (λ z. R z b) (some_is x a ea) (each_at (R x) xs p.0 j b eb)
pairs_at R (x ∷ xs) p (suc i) zero a b lt ea eb = absurd (omega (arith, lt))
pairs_at R (x ∷ xs) p (suc i) (suc j) a b lt ea eb = pairs_at R xs p.1 i j a b (omega (arith, lt)) ea eb

-- pairs that rise by a key rise by it where they have other numbers too
pub rising_of : {A K : Type 0} (cmp : K → K → Ordering) (key : A → K) (g : A → A) → ((a : A) → key (g a) ≡ key a) →
    (xs ys : List A) → map g xs ≡ ys → Pairs (λ a b. cmp (key a) (key b) ≡ Less) ys → IsRising cmp key xs
rising_of cmp key g same xs ys e p = record {
  rises = λ i j a b lt ea eb.
      let fa : slice_get ys i ≡ Some (g a) =
      subst (λ zs. slice_get zs i ≡ Some (g a)) e (slice_get-map g xs i ∙ ap (option_map g) ea) in
      let fb : slice_get ys j ≡ Some (g b) =
      subst (λ zs. slice_get zs j ≡ Some (g b)) e (slice_get-map g xs j ∙ ap (option_map g) eb) in
      grind (arith, common_steps, pairs_at);
}

-- ---- facts of all elements

pub each_of_all : {A : Type 0} (P : A → Type 0) (xs : List A) → All P xs → Each P xs
unfolding Each
each_of_all P [] h = tt
each_of_all P (x ∷ xs) h = (h 0 x (omega arith), each_of_all P xs (All-tail P x xs h))
