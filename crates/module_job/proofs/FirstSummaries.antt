-- The first of a list with each summary, and the first with each key of those that differ from it: for `job_groups`.
use Rattle.module_job.proofs.Imports.{IsFirstEqualElement, List, Option, Some, ap, arith, cases_Bool, cases_lt}
use Rattle.module_job.proofs.Imports.{common_steps}
use Rattle.module_job.proofs.Imports.{cond-false, cond-true, false≢true, if◌then◌else◌, lists, map, mapped_at, same_key}
use Rattle.module_job.proofs.Imports.{slice_get, slice_get-map, sym, unwrap_or, ℕ, ◌+◌, ◌<◌, ◌∙◌, ◌≡◌, ◌≢◌, ◌⊎◌}
use Rattle.lemmas.proofs.Common.{option_map}
use Rattle.module_job.proofs.FirstKeys.{IsFirstOf, first_found}
use Rattle.module_job.proofs.FirstShapes.{one_value}

-- the first of the list that has the summary of x is x
pub record IsHead {A : Type 0} (summary : A → List ℕ) (xs : List A) (x : A) : Type 0 where
  pub place : ℕ
  pub there : slice_get xs place ≡ Some x
  pub first : (i : ℕ) → i < place → slice_get (map summary xs) i ≢ Some (summary x)

-- those of the first n that lie before the number of their key, or that have none, are as the first of their summary
abbrev pub AreHeadsBefore : {A : Type 0} → (A → List ℕ) → (A → List ℕ) → List A → ℕ → (List ℕ → Option ℕ) → Type 0
AreHeadsBefore {A} summary key xs n firsts =
    (x : A) (i : ℕ) → i < unwrap_or (firsts (key x)) n → slice_get xs i ≡ Some x → IsHead summary xs x

-- the number that the map has for the summary is that of the first one with this summary
pub head_like : {A : Type 0} (summary : A → List ℕ) (xs : List A) (n : ℕ) (x : A) (k : List ℕ) (o : Option ℕ) (h : ℕ) →
    slice_get xs n ≡ Some x → k ≡ summary x → h ≡ unwrap_or o n → IsFirstOf (map summary xs) n k o →
    IsFirstEqualElement (map summary xs) n h
head_like summary xs n x k o h there its is known = grind (arith, common_steps, first_found, mapped_at)

-- ---- the first one with the summary is the same
pub first_equal_shape_number : {A : Type 0} (summary : A → List ℕ) (xs : List A) (n h : ℕ) →
    IsFirstEqualElement (map summary xs) n h → slice_get xs h ≡ slice_get xs n → IsFirstEqualElement xs n h
first_equal_shape_number summary xs n h like same = record {
  same = same;
  first = λ i lt e. like.first i lt
      (slice_get-map summary xs i ∙ ap (option_map summary) e ∙ sym (slice_get-map summary xs n));
}

pub is_head : {A : Type 0} (summary : A → List ℕ) (xs : List A) (n h : ℕ) (x : A) → slice_get xs n ≡ Some x →
    IsFirstEqualElement (map summary xs) n h → slice_get xs h ≡ slice_get xs n → IsHead summary xs x
is_head summary xs n h x there like same = grind (arith, common_steps, mapped_at)

-- ---- the first one with the summary differs
pub head_same : {A : Type 0} (summary : A → List ℕ) (xs : List A) (n h : ℕ) (x : A) → slice_get xs n ≡ Some x →
    IsFirstEqualElement (map summary xs) n h → IsHead summary xs x → slice_get xs h ≡ slice_get xs n
head_same summary xs n h x there like head = grind (arith, common_steps, mapped_at, cases_lt)

-- ---- one more
bound_more : (o : Option ℕ) (n i : ℕ) → i < unwrap_or o (n + 1) → (i < unwrap_or o n) ⊎ (i ≡ n)
bound_more o n i h1 = grind (arith, common_steps, cases_lt)

pub heads_more : {A : Type 0} (summary key : A → List ℕ) (xs : List A) (n : ℕ) (firsts : List ℕ → Option ℕ) (x : A) →
    slice_get xs n ≡ Some x → IsHead summary xs x → AreHeadsBefore summary key xs n firsts →
    AreHeadsBefore summary key xs (n + 1) firsts
heads_more summary key xs n firsts x there head before = grind (arith, common_steps, bound_more, one_value)

pub others_more : {A : Type 0} (summary key : A → List ℕ) (xs : List A) (n : ℕ) (firsts new : List ℕ → Option ℕ)
    (x : A) (k : List ℕ) (first : ℕ) → slice_get xs n ≡ Some x → k ≡ key x → first ≡ unwrap_or (firsts k) n →
    ((other : List ℕ) → new other ≡ (if same_key k other then Some first else firsts other)) →
    AreHeadsBefore summary key xs n firsts → AreHeadsBefore summary key xs (n + 1) new
others_more summary key xs n firsts new x k first there its is added before =
    grind (arith, common_steps, cases_Bool, lists, cond-true, cond-false, bound_more, one_value, false≢true)
