-- The first bytes of a text, one after the other.
use Rattle.section_text.proofs.Imports.{Bool, List, Option, Some, [], ap, arith, bytes_eq, common_steps, false}
use Rattle.section_text.proofs.Imports.{slice_get, subst, suc, sym, take, true, zero, ℕ, ◌+◌, ◌<◌, ◌∙◌, ◌∷◌, ◌≡◌}
use Rattle.lemmas.proofs.Common.{same_bytes, ◌≢◌}
use Rattle.section_text.specs.Limits.{limits_line_bytes}

same_first : (xs ys : List ℕ) (k b : ℕ) → take k xs ≡ take k ys → slice_get xs k ≡ Some b → slice_get ys k ≡ Some b →
    take (suc k) xs ≡ take (suc k) ys
same_first [] ys k b e g h = absurd cc
same_first (x ∷ xs) [] k b e g h = absurd cc
same_first (x ∷ xs) (y ∷ ys) zero b e g h =
    let one : x ≡ b = cc in let two : y ≡ b = cc in ap (λ z. z ∷ []) (one ∙ sym two)
same_first (x ∷ xs) (y ∷ ys) (suc k) b e g h =
    let first : x ≡ y = cc in
    let rest : take k xs ≡ take k ys = cc in
    let more : take (suc k) xs ≡ take (suc k) ys = same_first xs ys k b rest g h in
    λ i. first i ∷ more i

-- one byte more
pub same_more : (xs ys : List ℕ) (k b : ℕ) → take k xs ≡ take k ys → slice_get xs k ≡ Some b → slice_get ys k ≡ Some b →
    take (k + 1) xs ≡ take (k + 1) ys
same_more xs ys k b e g h =
    let next : suc k ≡ k + 1 = omega arith in
    subst (λ n. take n xs ≡ take n ys) next (same_first xs ys k b e g h)

differs : (a b : List ℕ) (t : Bool) → bytes_eq a b ≡ t → (a ≡ b → ⊥) → false ≡ t
differs a b t h1 h2 = grind (arith, common_steps, same_bytes)

-- another byte, or none
pub other_byte : (xs : List ℕ) (k : ℕ) (o : Option ℕ) → k < 9 → slice_get xs k ≡ o → o ≢ slice_get limits_line_bytes k →
    false ≡ bytes_eq (take 9 xs) limits_line_bytes
other_byte xs k o lt at other = grind (arith, common_steps, differs, slice_get)

pub all_bytes : (xs : List ℕ) → take 9 xs ≡ take 9 limits_line_bytes → true ≡ bytes_eq (take 9 xs) limits_line_bytes
all_bytes xs same = sym (ap (λ l. bytes_eq l limits_line_bytes) same)
