-- Groups of things that are the same
use Rattle.std.specs.Prelude.{◌≡◌, ◌≢◌, ℕ, ◌<◌, Bool, List, length, nat_eq, slice_get, slice_index}
use Rattle.std.specs.Cmp.Lexicographic.{pointwise}
use Rattle.module_job.specs.Shapes.{ShapeView}

-- number g is the first of those that are as number k is
pub record IsFirstEqualElement {A : Type 0} (xs : List A) (k g : ℕ) : Type 0 where
  pub same : slice_get xs g ≡ slice_get xs k
  pub first : (i : ℕ) → i < g → slice_get xs i ≢ slice_get xs k

-- for each the number of the first that is the same
pub record AreGroups {A : Type 0} (xs : List A) (groups : List ℕ) : Type 0 where
  pub count : length groups ≡ length xs
  pub each : (k : ℕ) → k < length xs → IsFirstEqualElement xs k (slice_index groups k)

-- whether two keys are the same
abbrev pub same_key : List ℕ → List ℕ → Bool
same_key = pointwise nat_eq

-- shapes that are the same have the same key
pub record AreKeys (shapes : List ShapeView) (keys : List (List ℕ)) : Type 0 where
  pub count : length keys ≡ length shapes
  pub same : (i k : ℕ) → slice_get shapes i ≡ slice_get shapes k → slice_get keys i ≡ slice_get keys k
