use Rattle.module_job.proofs.Imports.{IsFirstEqualElement, List, [], ap, arith, get, length, length-append, same_key}
use Rattle.module_job.proofs.Imports.{slice_get-get_or, slice_index, subst, sym, ℕ, ◌+◌, ◌∷◌}
use Rattle.module_job.proofs.FirstKeys.{IsFirstOf, first_found, known_more}
use Rattle.module_job.proofs.FirstShapes.{group_more}
use Rattle.module_job.proofs.groups.first_numbers_of_keys.Goals as goal

pub loop-number-preserved : goal.loop-number-preserved
loop-number-preserved c =
    let keys = c.args.keys.now in
    let n : ℕ = c.loop-number.number in
    let old : List ℕ = c.loop-number.groups.items in
    let first : ℕ = c.in_ok-first.first in
    let there = slice_get-get_or keys n _ c.loop-number-test.true in
    let is = c.in_ok-first.ensures.first in
    let like : IsFirstEqualElement keys n first =
    subst (IsFirstEqualElement keys n) (sym is)
    (first_found keys n _ (get same_key c.loop-number.firsts _) there (c.loop-number.invariant.known _)) in
    let items = c.in_ok-push.ensures.items in
    let longer = ap length items in
    let sum = length-append old (first ∷ []) in
    record {
      count = omega (arith, longer, sum, c.loop-number.invariant.count);
      each = λ k lt. subst (λ (gs : List ℕ). IsFirstEqualElement keys k (slice_index gs k)) (sym items)
          (group_more keys old n first c.loop-number.invariant.count c.loop-number.invariant.each like k lt);
      known = λ other. subst (IsFirstOf keys (n + 1) other) (sym (c.in_ok-first.ensures.first_is_added other))
          (known_more keys n _ other (get same_key c.loop-number.firsts _)
          (get same_key c.loop-number.firsts other) first there
          (c.loop-number.invariant.known _) is (c.loop-number.invariant.known other));
    }
