-- Shares count more and more.
use Rattle.std.proofs.lemmas.Grind.{common_steps}
use Rattle.job_pool.proofs.Imports.{AreCountsNotLess, Counts, Desk, HasWorked, List, Worker, [], ap, arith, drop}
use Rattle.job_pool.proofs.Imports.{get_or, length, length-map, shares_of, subst, suc, sym, take, zero, ℕ, ◌++◌, ◌<◌}
use Rattle.job_pool.proofs.Imports.{◌∙◌, ◌∷◌, ◌≡◌, ◌≤◌}
use Rattle.core_book.specs.Book.{accepted_count_after}
use Rattle.core_book.specs.declared.reply.Reply.{Reply}
use Rattle.core_book.specs.declared.reply.Reply.TheVariants.{Accepted}
use Rattle.verdict_book.specs.Counts.{counts_after_reply}
use Rattle.job_pool.specs.Work.{AreSharesNotLess}
use Rattle.job_pool.proofs.Filed.{whole}

not_lower : (count : ℕ) (r : Reply) → count ≤ accepted_count_after count r
not_lower count Accepted = omega arith
not_lower count _ = omega arith

-- a share that has risen counts one reply more
pub risen_more : (a b c : Counts) (r : Reply) → AreCountsNotLess a b → c ≡ counts_after_reply b r → AreCountsNotLess a c
risen_more a b c r before more = grind (arith, common_steps, not_lower)

-- and then it rises on
pub risen_on : (a b c : Counts) → AreCountsNotLess a b → AreCountsNotLess b c → AreCountsNotLess a c
risen_on a b c first then = record {
  filed = let f = first.filed in let t = then.filed in omega arith;
  accepted = let f = first.accepted in let t = then.accepted in omega arith;
}

module _ {F A : Type 0} (desk : Desk) (groups : List ℕ) where
  each_has : (before after : List (Worker F A)) → length after ≡ length before
      → ((i : ℕ) (d : Worker F A) → i < length before → HasWorked desk groups (get_or before i d) (get_or after i d))
      → (i : ℕ) (d : Counts) → i < length (shares_of before) →
      AreCountsNotLess (get_or (shares_of before) i d) (get_or (shares_of after) i d)
  each_has [] after len worked i d below = absurd (omega arith)
  each_has (x ∷ xs) [] len worked i d below = absurd (omega arith)
  each_has (x ∷ xs) (y ∷ ys) len worked zero d below = (worked 0 x (omega arith)).risen
  each_has (x ∷ xs) (y ∷ ys) len worked (suc i) d below =
      each_has xs ys (omega arith) (λ k e under. worked (suc k) e (omega arith)) i d (omega arith)

  -- so have the shares that come back in a `Vec` whose whole slice the workers wrote
  pub all_have : (n : ℕ) (workers before now : List (Worker F A)) (given back : List Counts) → n ≡ length workers →
      before ≡ workers → length now ≡ length before
      → shares_of workers ≡ given → back ≡ shares_of (take n (now ++ drop (length now) workers))
      → ((i : ℕ) (d : Worker F A) → i < length before → HasWorked desk groups (get_or before i d) (get_or now i d)) →
      AreSharesNotLess given back
  all_have n workers before now given back sized lent kept hired returned worked =
      let from : given ≡ shares_of before = sym hired ∙ ap shares_of (sym lent) in
      let to : back ≡ shares_of now = returned ∙ ap shares_of (whole n now workers (kept ∙ ap length lent) sized) in
      record {
        count = ap length to ∙ length-map now (λ (w : Worker F A). w.share) ∙ kept
            ∙ sym (length-map before (λ (w : Worker F A). w.share)) ∙ ap length (sym from);
        each = λ i d below. subst (λ l. AreCountsNotLess (get_or l i d) (get_or back i d)) (sym from)
            (subst (λ l. AreCountsNotLess (get_or (shares_of before) i d) (get_or l i d)) (sym to)
            (each_has before now kept worked i d (subst (λ l. i < length l) from below)));
      }
