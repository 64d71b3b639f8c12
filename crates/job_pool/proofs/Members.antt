-- Groups of jobs, and the findings that are due for draws.
use Rattle.std.proofs.lemmas.Grind.{common_steps}
use Rattle.job_pool.proofs.Imports.{All, IsEachNumberDrawnOnce, List, [], ap, arith, due_finding_count, get_or}
use Rattle.job_pool.proofs.Imports.{if◌then◌else◌, length, map, nat_tests, occurrences, refl, shape_of, shapes_of, suc}
use Rattle.job_pool.proofs.Imports.{sym, take, total, zero, ℕ, ◌++◌, ◌+◌, ◌<◌, ◌==◌, ◌∙◌, ◌∷◌, ◌≡◌, ◌≢◌, ◌≤◌}
use Rattle.lemmas.proofs.Common.{Some, option_map, slice_get, slice_index, All-head, All-tail}
use Rattle.lemmas.proofs.Common.{slice_get-map, slice_get_within, take_more}
use Rattle.module_job.specs.Groups.{AreGroups}
use Rattle.module_job.specs.Jobs.{JobView}
use Rattle.module_job.specs.Shapes.{ShapeView}
use Rattle.job_pool.proofs.Sums.{nothing, total-add, total_same}
use Rattle.core_book.proofs.Counting.{times-append}

-- ---- groups

pub read_any : (xs : List ℕ) (k d : ℕ) → k < length xs → get_or xs k d ≡ slice_index xs k
read_any [] k d lt = absurd (omega (arith, lt))
read_any (x ∷ xs) zero d lt = refl
read_any (x ∷ xs) (suc k) d lt = read_any xs k d (omega (arith, lt))

first_below : (shapes : List ShapeView) (groups : List ℕ) → AreGroups shapes groups → (k : ℕ) → k < length shapes →
    slice_index groups k < length shapes
first_below shapes groups h k lt = grind (arith, common_steps, slice_get_within)

pub groups_below : (shapes : List ShapeView) (groups : List ℕ) → AreGroups shapes groups →
    All (λ g. g < length shapes) groups
groups_below shapes groups h k d lt = grind (arith, common_steps, read_any, first_below)

-- the first of a group is in its own group
own_first : (shapes : List ShapeView) (groups : List ℕ) → AreGroups shapes groups → (k g : ℕ) → k < length shapes →
    slice_index groups k ≡ g → slice_index groups g ≡ g
own_first shapes groups h k g lt is = grind (arith, common_steps, (first_below shapes groups h k lt))

times_absent : (x : ℕ) (gs : List ℕ) → All (λ g. g ≢ x) gs → occurrences x gs ≡ 0
times_absent x [] all = refl
times_absent x (g ∷ gs) all = let h = times_absent x gs (All-tail (λ g. g ≢ x) g gs all) in let ne =
    All-head (λ g. g ≢ x) g gs all in grind (arith, nat_tests)

-- who is not the first of a group has no members
pub not_first : (shapes : List ShapeView) (groups : List ℕ) (number : ℕ) → AreGroups shapes groups →
    slice_index groups number ≢ number → occurrences number groups ≡ 0
not_first shapes groups number h other = grind (arith, common_steps, times_absent, own_first, read_any)

-- a member has the shape of the first
pub member_shape : (jobs : List JobView) (groups : List ℕ) (number member : ℕ) (j k : JobView) →
    AreGroups (shapes_of jobs) groups → member < length (shapes_of jobs) → slice_get jobs number ≡ Some j →
    slice_get jobs member ≡ Some k → slice_index groups member ≡ number → shape_of j ≡ shape_of k
member_shape jobs groups number member j k h lt first own is =
    let same : slice_get (map shape_of jobs) number ≡ slice_get (map shape_of jobs) member =
    ap (slice_get (map shape_of jobs)) (sym is) ∙ (h.each member lt).same in
    one _ _ _ _ (slice_get-map shape_of jobs number ∙ ap (option_map shape_of) first)
    (slice_get-map shape_of jobs member ∙ ap (option_map shape_of) own) same
  where
    one : {A : Type 0} (o p : _) (a b : A) → o ≡ Some a → p ≡ Some b → o ≡ p → a ≡ b
    one o p a b e f g = cc

pub times_step : (x : ℕ) (gs : List ℕ) (i d : ℕ) → i < length gs →
    occurrences x (take (i + 1) gs) ≡ occurrences x (take i gs) + (if get_or gs i d == x then 1 else 0)
times_step x gs i d lt = grind (arith, common_steps, take_more, times-append)

-- ---- what is due
due_append : (gs xs ys : List ℕ) → due_finding_count gs (xs ++ ys) ≡ due_finding_count gs xs + due_finding_count gs ys
due_append gs [] ys = omega arith
due_append gs (x ∷ xs) ys = let h = due_append gs xs ys in omega arith

pub due_more : (gs : List ℕ) (i : ℕ) (xs ys : List ℕ) → ys ≡ xs ++ i ∷ [] →
    due_finding_count gs ys ≡ due_finding_count gs xs + occurrences i gs
due_more gs i xs ys is = let e = ap (due_finding_count gs) is in let a = due_append gs xs (i ∷ []) in
    omega (arith, e, a)

due_none : (ys : List ℕ) → due_finding_count [] ys ≡ 0
due_none [] = refl
due_none (y ∷ ys) = let h = due_none ys in omega (arith, h)

one_test : (g y : ℕ) → ◌≡◌ {A = ℕ} (if g == y then 1 else 0) (if y == g then 1 else 0)
one_test g y = grind (arith, nat_tests)

due_cons : (g : ℕ) (gs ys : List ℕ) → due_finding_count (g ∷ gs) ys ≡ occurrences g ys + due_finding_count gs ys
due_cons g gs [] = refl
due_cons g gs (y ∷ ys) = let h = due_cons g gs ys in let t = one_test g y in omega (arith, h, t)

-- where all numbers of groups were drawn, each member's finding was due once
pub due_in_all : (counter n : ℕ) (lists : List (List ℕ)) → IsEachNumberDrawnOnce counter lists → n ≤ counter →
    (gs : List ℕ) → All (λ g. g < n) gs → total (due_finding_count gs) lists ≡ length gs
due_in_all counter n lists r le [] all = total_same (due_finding_count []) (λ _. 0) lists due_none ∙ nothing lists
due_in_all counter n lists r le (g ∷ gs) all =
    let h = due_in_all counter n lists r le gs (All-tail (λ g. g < n) g gs all) in
    let below = All-head (λ g. g < n) g gs all in
    let s = total_same (due_finding_count (g ∷ gs)) (λ ys. occurrences g ys + due_finding_count gs ys) lists
    (due_cons g gs) in
    let a = total-add (occurrences g) (due_finding_count gs) lists in
    let o = r.once g in
    grind (arith, nat_tests)

-- no member's group has a number that is too large
pub none_beyond : (n x : ℕ) (gs : List ℕ) → All (λ g. g < n) gs → n ≤ x → occurrences x gs ≡ 0
none_beyond n x gs all le = grind (arith, common_steps, times_absent)
