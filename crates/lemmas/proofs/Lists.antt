-- Lists: their items, their maps, and what holds of each item.
use Rattle.std.proofs.Common.{All, Contains, List, Some, [], ap, arith, drop, length, map, option_map, refl, slice_get}
use Rattle.std.proofs.Common.{suc, sym, take, take-append-drop, true, zero, ℕ, ◌++◌, ◌<◌, ◌∙◌, ◌∷◌, ◌≡◌}
use Rattle.std.proofs.lemmas.Option.{slice_get-map, same_Some}
use Rattle.std.proofs.lemmas.List.Elements.{All-nil, All-cons, All-head, All-tail}
use Rattle.std.proofs.Props.{props}
use Rattle.std.proofs.lemmas.Slice.Eq.{bytes_eq-Decides}
use Rattle.std.specs.Str.{bytes_eq}

pub mapped_at : {A B : Type 0} (f : A → B) (xs : List A) (k : ℕ) (x : A) → slice_get xs k ≡ Some x →
    slice_get (map f xs) k ≡ Some (f x)
mapped_at f xs k x e = slice_get-map f xs k ∙ ap (option_map f) e

pub mapped_from : {A B : Type 0} (f : A → B) (xs : List A) (k : ℕ) (y : B) → slice_get (map f xs) k ≡ Some y →
    (x : A) × (slice_get xs k ≡ Some x) × (f x ≡ y)
mapped_from f [] k y e = absurd cc
mapped_from f (x ∷ xs) zero y e = (x, refl, same_Some (f x) y e)
mapped_from f (x ∷ xs) (suc k) y e = mapped_from f xs k y e

pub none_at : {A : Type 0} (k : ℕ) (x : A) → slice_get [] k ≡ Some x → ⊥
none_at k x e = cc

pub some_at : {A : Type 0} (xs : List A) (k : ℕ) → k < length xs → (x : A) × (slice_get xs k ≡ Some x)
some_at [] k l = absurd (omega arith)
some_at (x ∷ xs) zero l = (x, refl)
some_at (x ∷ xs) (suc k) l = some_at xs k (omega arith)

pub same_head : {A : Type 0} (x y : A) (xs ys : List A) → x ∷ xs ≡ y ∷ ys → x ≡ y
same_head x y xs ys e = cc

pub same_tail : {A : Type 0} (x y : A) (xs ys : List A) → x ∷ xs ≡ y ∷ ys → xs ≡ ys
same_tail x y xs ys e = cc

pub nothing_in : {A : Type 0} (x : A) → Contains [] x → ⊥
nothing_in x h = let l = h.1 in omega (arith, l)

pub one_in : {A : Type 0} (x y : A) → Contains (x ∷ []) y → x ≡ y
one_in x y (zero, l, e) = e
one_in x y (suc k, l, e) = absurd (omega (arith, l))

pub all_unmapped : {A B : Type 0} (P : B → Type 0) (f : A → B) (xs : List A) → All P (map f xs) → All (λ x. P (f x)) xs
all_unmapped P f [] all = All-nil (λ x. P (f x))
all_unmapped P f (x ∷ xs) all = All-cons (λ x. P (f x)) x xs (All-head P (f x) (map f xs) all)
    (all_unmapped P f xs (All-tail P (f x) (map f xs) all))

pub nothing_prop : IsProp ⊥
nothing_prop = Prim.hlevel props

pub same_bytes : (n m : List ℕ) → bytes_eq n m ≡ true → n ≡ m
same_bytes n m e = (bytes_eq-Decides n m).0 e

pub begins_with : (m l : List ℕ) (n : ℕ) → bytes_eq (take n l) m ≡ true → l ≡ m ++ drop n l
begins_with m l n e = sym (take-append-drop n l) ∙ ap (λ t. t ++ drop n l) (same_bytes (take n l) m e)
