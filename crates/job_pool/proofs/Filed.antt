-- The findings that are due from the draws of all workers.
use Rattle.std.proofs.lemmas.Grind.{common_steps}
use Rattle.job_pool.proofs.Imports.{All, All-map, Desk, HasWorked, IsEachNumberDrawnOnce, IsSeatOf, List, Worker, []}
use Rattle.job_pool.proofs.Imports.{arith, drawn_by, drop, due_finding_count, false, get_or, if◌then◌else◌, length, map}
use Rattle.job_pool.proofs.Imports.{nat_tests, past_last, refl, seats_of, shares_of, subst, suc, sum_of_filed, take}
use Rattle.job_pool.proofs.Imports.{total, ℕ, ◌++◌, ◌+◌, ◌<◌, ◌∷◌, ◌≡◌, ◌≤◌}
use Rattle.lemmas.proofs.Common.{Bool, nat_lt, true, drop_all, sum_by-cons, take_all}
use Rattle.core_book.specs.declared.claim.Claim.TheVariants.{Number, Empty}
use Rattle.core_book.specs.Claims.{claim_answer, draws_after_claim}
use Rattle.job_pool.proofs.Ends.{end_counted}
use Rattle.job_pool.proofs.Members.{due_in_all, due_more, none_beyond}
use mathlib.Core.Option.{some}
use lib.ListN.{get_elem?}

by_cases : (b d : Bool) (groups : List ℕ) (n next : ℕ) (before : List ℕ) → All (λ g. g < n) groups → nat_lt next n ≡ d →
    Empty ≡ (if b then Empty else if d then Number next else Empty) →
    due_finding_count groups (if b then before else before ++ next ∷ []) ≡ due_finding_count groups before
by_cases true d groups n next before below t e = refl
by_cases false true groups n next before below t e = absurd (cc)
by_cases false false groups n next before below t e =
    let le : n ≤ next = grind (arith, nat_tests) in
    let a = due_more groups next before (before ++ next ∷ []) refl in
    let z = none_beyond n next groups below le in
    omega (arith, a, z)

-- for a claim that is answered Empty nothing more is due
pub empty_adds_none : (groups : List ℕ) (n next : ℕ) (before after : List ℕ) → All (λ g. g < n) groups →
    Empty ≡ claim_answer n before next → after ≡ draws_after_claim n before next →
    due_finding_count groups after ≡ due_finding_count groups before
empty_adds_none groups n next before after below e is = grind (arith, common_steps, by_cases)

-- where a list ends with a draw of n or more, all numbers below n were drawn, and so the findings of all members are
-- due
all_are_due : (counter n i : ℕ) (lists : List (List ℕ)) (xs groups : List ℕ) → IsEachNumberDrawnOnce counter lists →
    get_elem? lists i ≡ some xs → n < past_last xs → All (λ g. g < n) groups →
    total (due_finding_count groups) lists ≡ length groups
all_are_due counter n i lists xs groups r at ends below =
    let counted = end_counted counter n i lists xs r at ends in
    due_in_all counter n lists r (omega (arith, counted)) groups below

-- a `Vec` whose whole slice was written
pub whole : {X : Type 0} (n : ℕ) (xs ys : List X) → length xs ≡ length ys → n ≡ length ys →
    take n (xs ++ drop (length xs) ys) ≡ xs
whole n xs ys e is = grind (arith, common_steps, drop_all, take_all)

module _ {F A : Type 0} (desk : Desk) (groups : List ℕ) where
  -- what each worker filed, added up
  all_filed : (before after : List (Worker F A)) → length after ≡ length before
      → ((i : ℕ) (d : Worker F A) → i < length before →
      (get_or after i d).share.filed
      ≡ (get_or before i d).share.filed + due_finding_count groups (drawn_by (get_or after i d).seat))
      → sum_of_filed (shares_of after)
      ≡ sum_of_filed (shares_of before) + total (due_finding_count groups) (map drawn_by (seats_of after))
  all_filed [] [] len each = refl
  all_filed [] (y ∷ ys) len each = absurd (omega arith)
  all_filed (x ∷ xs) [] len each = absurd (omega arith)
  all_filed (x ∷ xs) (y ∷ ys) len each =
      let h = all_filed xs ys (omega arith) (λ i d below. each (suc i) d (omega arith)) in
      let e = each 0 x (omega arith) in
      omega (
        arith,
        h,
        e,
        sum_by-cons (λ s. s.filed) x.share (shares_of xs),
        sum_by-cons (λ s. s.filed) y.share (shares_of ys),
      )

  first_of : (ws : List (Worker F A)) → 0 < length ws →
      (w : Worker F A) × (get_elem? (map drawn_by (seats_of ws)) 0 ≡ some (drawn_by w.seat)) × (get_or ws 0 w ≡ w)
  first_of [] some_worker = absurd (omega arith)
  first_of (w ∷ ws) some_worker = (w, refl, refl)

  module _ (before after : List (Worker F A)) (len : length after ≡ length before)
      (each : (i : ℕ) (d : Worker F A) → i < length before →
      HasWorked desk groups (get_or before i d) (get_or after i d)) where
    pub all_seats : All (IsSeatOf desk) (seats_of after)
    all_seats = All-map (IsSeatOf desk) (λ (w : Worker F A). w.seat) after (λ i d below. (each i d (omega arith)).seat)

    -- if no worker stopped out of memory, the finding of each number was filed
    pub every_number_was_filed : (counter : ℕ) (lists : List (List ℕ)) → 0 < length before →
        All (λ (w : Worker F A). w.starved ≡ false) after → lists ≡ map drawn_by (seats_of after) →
        IsEachNumberDrawnOnce counter lists → All (λ g. g < desk.numbers) groups
        → sum_of_filed (shares_of after) ≡ sum_of_filed (shares_of before) + length groups
    every_number_was_filed counter lists some_worker fed is r below =
        let sum = all_filed before after len (λ i d below. (each i d below).filed (fed i d (omega arith))) in
        let first = first_of after (omega arith) in
        let ends = (each 0 first.0 some_worker).ended (fed 0 first.0 (omega arith)) in
        let ended : desk.numbers < past_last (drawn_by first.0.seat) =
        subst (λ (w : Worker F A). desk.numbers < past_last (drawn_by w.seat)) first.2 ends in
        let all = all_are_due counter desk.numbers 0 (map drawn_by (seats_of after)) (drawn_by first.0.seat) groups
        (subst (IsEachNumberDrawnOnce counter) is r) first.1 ended below in
        omega (arith, sum, all)
