-- Shapes at their places in a list of references.
use Rattle.module_job.proofs.Imports.{IsFirstEqualElement, List, Option, ShapeView, Some, [], ap, arith, cases_lt}
use Rattle.module_job.proofs.Imports.{common_steps}
use Rattle.module_job.proofs.Imports.{get_or, length, length-map, map, refl, slice_get, slice_get-get_or, slice_get-map}
use Rattle.module_job.proofs.Imports.{slice_index, suc, sym, unwrap_or, zero, ℕ, ◌++◌, ◌+◌, ◌<◌, ◌∙◌, ◌∷◌, ◌≡◌}
use Rattle.module_job.specs.Groups.{AreGroups, AreKeys}

pub value_at : {A B : Type 0} (v : A → B) (xs : List A) (k : ℕ) (d : A) (b : B) → k < length xs → d ≡ get_or xs k d →
    b ≡ v d → slice_get (map v xs) k ≡ Some b
value_at v xs k d b lt is e = grind (arith, common_steps, slice_get-map, slice_get-get_or)

pub one_value : {A : Type 0} (o p : Option A) (a b : A) → o ≡ Some a → p ≡ Some b → o ≡ p → a ≡ b
one_value o p a b e f g = cc

-- one more group
pub group_more : {A : Type 0} (shapes : List A) (groups : List ℕ) (n g : ℕ) → length groups ≡ n →
    ((k : ℕ) → k < n → IsFirstEqualElement shapes k (slice_index groups k)) → IsFirstEqualElement shapes n g →
    (k : ℕ) → k < n + 1 → IsFirstEqualElement shapes k (slice_index (groups ++ g ∷ []) k)
group_more shapes groups n g count each here k lt = grind (arith, common_steps, cases_lt, common_steps)

pub all_groups : {A : Type 0} (shapes : List A) (groups : List ℕ) (n : ℕ) → n ≡ length shapes → length groups ≡ n →
    ((k : ℕ) → k < n → IsFirstEqualElement shapes k (slice_index groups k)) → AreGroups shapes groups
all_groups shapes groups n all count each = grind (arith, common_steps)

-- keys that are made of the shapes
pub made_keys : (shapes : List ShapeView) (key : ShapeView → List ℕ) → AreKeys shapes (map key shapes)
made_keys shapes key = grind (arith, common_steps, length-map, slice_get-map)

-- ---- a list that is made of another in two steps
pub map_twice : {A B C : Type 0} (f : A → B) (g : B → C) (xs : List A) → map g (map f xs) ≡ map (λ x. g (f x)) xs
map_twice f g [] = refl
map_twice f g (x ∷ xs) = ap (λ l. g (f x) ∷ l) (map_twice f g xs)

pub value_twice : {A B C : Type 0} (v : A → B) (g : B → C) (xs : List A) (k : ℕ) (d : A) (c : C) → k < length xs →
    d ≡ get_or xs k d → c ≡ g (v d) → slice_get (map g (map v xs)) k ≡ Some c
value_twice v g xs k d c lt is e = ap (λ l. slice_get l k) (map_twice v g xs) ∙ value_at (λ x. g (v x)) xs k d c lt is e

-- ---- one key is that at the same place
read_is : {A : Type 0} (xs : List A) (i : ℕ) (d : A) → get_or xs i d ≡ unwrap_or (slice_get xs i) d
read_is [] i d = refl
read_is (x ∷ xs) zero d = refl
read_is (x ∷ xs) (suc i) d = read_is xs i d

pub same_read : {A : Type 0} (xs : List A) (i k : ℕ) (d : A) → slice_get xs i ≡ slice_get xs k →
    get_or xs i d ≡ get_or xs k d
same_read xs i k d e = read_is xs i d ∙ ap (λ o. unwrap_or o d) e ∙ sym (read_is xs k d)
