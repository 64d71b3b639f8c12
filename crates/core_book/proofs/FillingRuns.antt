-- While a book is filled up, one job of each shape is run at most
use Rattle.core_book.proofs.Imports.{AreGroups, BookView, Bool, Finding, HoldsFindingOfSameShape, IsSome, JobView, List}
use Rattle.core_book.proofs.Imports.{None, Option, Some, ap, arith, common_steps, false, get_or, group_count_below}
use Rattle.core_book.proofs.Imports.{held_finding, if◌then◌else◌, inl, inr, job_of, length, nat_tests, option_map, refl}
use Rattle.core_book.proofs.Imports.{same_Some, shape_of, shapes_of, slice_get, slice_get-map, subst, suc, sym, true}
use Rattle.core_book.proofs.Imports.{zero, ℕ, ◌+◌, ◌<◌, ◌==◌, ◌∙◌, ◌≡◌, ◌≢◌, ◌≤◌}
use Rattle.lemmas.proofs.Common.{slice_index, cases_order, get_or_default}
use Rattle.module_job.specs.Groups.{IsFirstEqualElement}
use Rattle.module_job.specs.Shapes.{ShapeView}
use Rattle.core_book.specs.Filling.{RunsAtMostOncePerShape}
use Rattle.core_book.proofs.Fillings.{IsFilling}

-- ---- groups

same_first : {A : Type 0} (xs : List A) (k a b : ℕ) → IsFirstEqualElement xs k a → IsFirstEqualElement xs k b → a ≡ b
same_first xs k a b f h = grind (arith, common_steps, cases_order)

-- the number that is read at a place
pub first-read : (g : List ℕ) (n first : ℕ) → n < length g → first ≡ get_or g n first → slice_index g n ≡ first
first-read g n first within is = get_or_default g n 0 first within ∙ sym is

pub same_firsts : {A : Type 0} (xs : List A) (g h : List ℕ) → AreGroups xs g → AreGroups xs h → (n : ℕ) →
    n ≤ length xs → group_count_below g n ≡ group_count_below h n
same_firsts xs g h of_g of_h zero le = refl
same_firsts xs g h of_g of_h (suc n) le =
    grind (arith, common_steps, same_first, (same_firsts xs g h of_g of_h n (omega (arith, le))))

pub firsts_grow : (g : List ℕ) (n m : ℕ) → n ≤ m → group_count_below g n ≤ group_count_below g m
firsts_grow g n zero le = grind (arith, common_steps)
firsts_grow g n (suc m) le = elim (cases_order n (suc m)) [
  | inl same ↦ subst (λ k. group_count_below g n ≤ group_count_below g k) same (omega arith)
  | inr rest ↦ grind (arith, common_steps, firsts_grow g n m)
]

-- ---- the first of a group is held before the others

slice_map : (js : List JobView) (k : ℕ) (j : JobView) → slice_get js k ≡ Some j →
    slice_get (shapes_of js) k ≡ Some (shape_of j)
slice_map js k j e = slice_get-map shape_of js k ∙ ap (option_map shape_of) e

some_of : (o : Option Finding) → IsSome o → (f : Finding) × (o ≡ Some f)
some_of None h = absurd cc
some_of (Some f) h = (f, refl)

pub holds_alike : (b c : BookView) (g : List ℕ) (n : ℕ) (job : JobView) → IsFilling b c n →
    AreGroups (shapes_of c.jobs) g → n < length (shapes_of c.jobs) →
    slice_get c.jobs n ≡ Some job → slice_index g n ≢ n → HoldsFindingOfSameShape c (slice_index g n) job
holds_alike b c g n job filling are below at other =
    let first = are.each n below in
    let g_n = slice_index g n in
    let lower : g_n < n = by_order g_n n first.first other in
    let f = some_of (held_finding c g_n) (filling.filled.held g_n lower) in
    let own = filling.book.own g_n f.0 f.1 in
    record {
      finding = f.0;
      held = f.1;
      alike = same_Some _ _ (sym (slice_map c.jobs g_n (job_of f.0) own.job) ∙ first.same ∙ slice_map c.jobs n job at);
    }
  where
    by_order : (a n : ℕ) → ((i : ℕ) → i < a → slice_get (shapes_of c.jobs) i ≢ slice_get (shapes_of c.jobs) n) →
        a ≢ n → a < n
    by_order a n none other = elim (cases_order a n) [
      | inl same ↦ absurd (other same)
      | inr rest ↦ elim rest [
        | inl before ↦ before
        | inr after ↦ absurd (none n after refl)
      ]
    ]

-- ---- one number more

step_by : (b : Bool) (a n before r r' f : ℕ) → (a == n) ≡ b → r ≤ before + f → (a ≢ n → r' ≡ r) → r' ≤ r + 1 →
    r' ≤ before + (f + (if b then 1 else 0))
step_by true a n before r r' f e so_far none one = omega (arith, so_far, one)
step_by false a n before r r' f e so_far none one =
    (let same = none (λ s. apart a n e s) in omega (arith, so_far, same))
  where
    apart : (a n : ℕ) → (a == n) ≡ false → a ≡ n → ⊥
    apart a n e s = grind (arith, nat_tests)

pub runs_step : (g : List ℕ) (n before r r' : ℕ) → r ≤ before + group_count_below g n → (slice_index g n ≢ n → r' ≡ r) →
    r' ≤ r + 1 → r' ≤ before + group_count_below g (n + 1)
runs_step g n before r r' so_far none one = grind (arith, common_steps, step_by)

-- after some numbers, which are no more than there are jobs
pub runs_end : {shapes : List ShapeView} (g : List ℕ) (n before r : ℕ) → AreGroups shapes g → n ≤ length shapes →
    r ≤ before + group_count_below g n → RunsAtMostOncePerShape shapes before r
runs_end {shapes = shapes} g n before r of_g le so_far h of_h =
    let same = same_firsts shapes g h of_g of_h (length shapes) (omega arith) in
    let grow = firsts_grow g n (length shapes) le in
    omega (arith, so_far, same, grow)
