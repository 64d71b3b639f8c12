-- If all elements of a joined list have a property, those of each of its parts have it.
use Rattle.certificate_lines.proofs.Imports.{All, All-append, All-nil, All-tail, List, Some, [], append-nil, arith}
use Rattle.certificate_lines.proofs.Imports.{common_steps, flat_map, flat_map-append, get_or, length, slice_get, subst}
use Rattle.certificate_lines.proofs.Imports.{suc, take, take_more, zero, ℕ, ◌++◌, ◌+◌, ◌<◌, ◌∷◌, ◌≡◌}
use Rattle.lemmas.proofs.Common.{All-cons, All-head}
use Rattle.certificate_lines.proofs.Lists.{some_is}

pub all_left : {A : Type 0} (P : A → Type 0) (xs ys : List A) → All P (xs ++ ys) → All P xs
all_left P [] ys h = All-nil P
all_left P (x ∷ xs) ys h = All-cons P x xs (All-head P x (xs ++ ys) h) (all_left P xs ys (All-tail P x (xs ++ ys) h))

pub all_right : {A : Type 0} (P : A → Type 0) (xs ys : List A) → All P (xs ++ ys) → All P ys
all_right P [] ys h = h
all_right P (x ∷ xs) ys h = all_right P xs ys (All-tail P x (xs ++ ys) h)

pub flat_part : {X A : Type 0} (P : A → Type 0) (f : X → List A) (xs : List X) → All P (flat_map f xs) →
    (i : ℕ) (x : X) → slice_get xs i ≡ Some x → All P (f x)
flat_part P f [] h i x e = absurd cc
flat_part P f (y ∷ xs) h zero x e = subst (λ z. All P (f z)) (some_is y x e) (all_left P (f y) (flat_map f xs) h)
flat_part P f (y ∷ xs) h (suc i) x e = flat_part P f xs (all_right P (f y) (flat_map f xs) h) i x e

-- what the first i elements make, and the next one
pub flat_more : {X Y : Type 0} (f : X → List Y) (xs : List X) (i : ℕ) (x : X) → i < length xs → x ≡ get_or xs i x →
    flat_map f (take (i + 1) xs) ≡ flat_map f (take i xs) ++ f x
flat_more f xs i x within is = grind (arith, common_steps, take_more, flat_map-append, append-nil)

-- what holds of all parts holds of all of a joined list
pub flat_all : {X A : Type 0} (P : A → Type 0) (f : X → List A) (Q : X → Type 0) → ((x : X) → Q x → All P (f x)) →
    (xs : List X) → All Q xs → All P (flat_map f xs)
flat_all P f Q each [] all = All-nil P
flat_all P f Q each (x ∷ xs) all =
    All-append P (f x) (flat_map f xs) (each x (All-head Q x xs all)) (flat_all P f Q each xs (All-tail Q x xs all))
