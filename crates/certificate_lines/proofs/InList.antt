-- Facts about an element of a list
use Rattle.certificate_lines.proofs.Imports.{All, List, Some, [], ap, inl, inr, slice_get, suc, ℕ, ◌∷◌, ◌≡◌}
use Rattle.certificate_lines.proofs.LineOrder.{In, each_in}
use Rattle.certificate_lines.proofs.Pairs.{each_of_all}

pub all_in : {A : Type 0} (P : A → Type 0) (xs : List A) → All P xs → (x : A) → In x xs → P x
all_in P xs all x i = each_in P xs (each_of_all P xs all) x i

-- where an element of a list stands
pub placed : {A : Type 0} (x : A) (xs : List A) → In x xs → (k : ℕ) × (slice_get xs k ≡ Some x)
unfolding In
placed x [] i = absurd i
placed x (y ∷ ys) (inl same) = (0, ap Some same)
placed x (y ∷ ys) (inr later) = let r = placed x ys later in (suc r.0, r.1)
