use Rattle.module_job.proofs.Imports.{IsFirstEqualElement, List, Some, [], ap, arc_value, arith, false≢true, get}
use Rattle.module_job.proofs.Imports.{length, length-append, length-map, map, mapped_at, same_key, shape_digest}
use Rattle.module_job.proofs.Imports.{shape_of, shape_summary, slice_get, slice_index, subst, sym, unwrap_or, ℕ, ◌+◌}
use Rattle.module_job.proofs.Imports.{◌<◌, ◌∙◌, ◌∷◌, ◌≡◌}
use Rattle.module_job.proofs.FirstKeys.{IsFirstOf, found_within, known_more}
use Rattle.module_job.proofs.FirstShapes.{all_groups, group_more, value_twice}
use Rattle.module_job.proofs.FirstSummaries.{AreHeadsBefore, first_equal_shape_number, head_like, head_same, heads_more}
use Rattle.module_job.proofs.FirstSummaries.{is_head, others_more}
use Rattle.module_job.proofs.groups.job_groups.Goals.{then-not-have_same_shape+in_ok-key+in_ok-first}
use Rattle.module_job.proofs.groups.job_groups.Goals.{else-not-have_same_shape}
use Rattle.module_job.proofs.groups.job_groups.Goals as goal

pub have_same_shape-requires : goal.have_same_shape-requires
have_same_shape-requires c =
    let summary : List ℕ = c.summary.result in
    let within = found_within _ c.loop-number.number summary (get same_key c.loop-number.summaries summary)
    (c.loop-number.invariant.summaries summary) in
    record {
      one_below_count = omega (arith, within, c.in_ok-group.ensures.first, c.loop-number-test.true);
      other_below_count = c.loop-number-test.true;
    }

pub first_job_of_same_shape-group-requires : goal.first_job_of_same_shape-group-requires
first_job_of_same_shape-group-requires c =
    let js = c.args.jobs.now in
    let shapes = map shape_of (map arc_value js) in
    let n : ℕ = c.loop-number.number in
    let t = c.deref-shape.result.now in
    let there : slice_get shapes n ≡ Some t =
    value_twice arc_value shape_of js n _ t c.loop-number-test.true c.index-jobs-number.is
    (c.deref-shape.ensures ∙ c.shape.ensures ∙ ap shape_of c.deref.ensures) in
    let summary : List ℕ = c.summary.result in
    let like = head_like shape_summary shapes n t summary
    (get same_key c.loop-number.summaries summary) c.in_ok-group.group
    there c.summary.ensures c.in_ok-group.ensures.first (c.loop-number.invariant.summaries summary) in
    let first = c.in_ok-first.ensures.first
    ∙ ap (λ (k : List ℕ). unwrap_or (get same_key c.loop-number.keys k) n) c.in_ok-key.ensures.key in
    record {
      number = c.loop-number-test.true;
      none_before = λ i lt e.
          let head = c.loop-number.invariant.keys t i (subst (λ (m : ℕ). i < m) first lt) (e ∙ there) in
          false≢true (sym c.if-not-have_same_shape.true
          ∙ c.have_same_shape.ensures.1 (head_same shape_summary shapes n c.in_ok-group.group t there like head));
    }

pub loop-number-preserved : goal.loop-number-preserved
loop-number-preserved c =
    let js = c.args.jobs.now in
    let shapes = map shape_of (map arc_value js) in
    let n : ℕ = c.loop-number.number in
    let t = c.deref-shape.result.now in
    let there : slice_get shapes n ≡ Some t =
    value_twice arc_value shape_of js n _ t c.loop-number-test.true c.index-jobs-number.is
    (c.deref-shape.ensures ∙ c.shape.ensures ∙ ap shape_of c.deref.ensures) in
    let summary : List ℕ = c.summary.result in
    let head : ℕ = c.in_ok-group.group in
    let is = c.in_ok-group.ensures.first in
    let like : IsFirstEqualElement (map shape_summary shapes) n head =
    head_like shape_summary shapes n t summary
    (get same_key c.loop-number.summaries summary) head there c.summary.ensures is
    (c.loop-number.invariant.summaries summary) in
    let old : List ℕ = c.loop-number.groups.items in
    let g : ℕ = c.if-not-have_same_shape.group in
    let here : IsFirstEqualElement shapes n g = elim c.if-not-have_same_shape.branch [
      | then-not-have_same_shape+in_ok-key+in_ok-first w ↦
          subst (IsFirstEqualElement shapes n) (sym w.group-is) w.first_job_of_same_shape-group.ensures
      | else-not-have_same_shape w ↦ subst (IsFirstEqualElement shapes n) (sym w.group-is)
          (first_equal_shape_number shape_summary shapes n head like
          (c.have_same_shape.ensures.0 w.if-not-have_same_shape.false))
    ] in
    let items = c.in_ok-push.ensures.items in
    let longer = ap length items in
    let sum = length-append old (g ∷ []) in
    record {
      count = omega (arith, longer, sum, c.loop-number.invariant.count);
      each = λ k lt. subst (λ (gs : List ℕ). IsFirstEqualElement shapes k (slice_index gs k)) (sym items)
          (group_more shapes old n g c.loop-number.invariant.count c.loop-number.invariant.each here k lt);
      summaries = λ other. subst (IsFirstOf (map shape_summary shapes) (n + 1) other)
          (sym (c.in_ok-group.ensures.first_is_added other))
          (known_more _ n summary other (get same_key c.loop-number.summaries summary)
          (get same_key c.loop-number.summaries other)
          head (mapped_at shape_summary shapes n t there ∙ ap Some (sym c.summary.ensures))
          (c.loop-number.invariant.summaries summary) is (c.loop-number.invariant.summaries other));
      keys = elim c.if-not-have_same_shape.branch [
        | then-not-have_same_shape+in_ok-key+in_ok-first w ↦ others_more shape_summary shape_digest shapes n
            (get same_key c.loop-number.keys) (get same_key c.if-not-have_same_shape.keys) t w.in_ok-key.field-0
            w.in_ok-first.first there w.in_ok-key.ensures.key w.in_ok-first.ensures.first
            (λ other. ap (λ m. get same_key m other) w.keys-is ∙ w.in_ok-first.ensures.first_is_added other)
            c.loop-number.invariant.keys
        | else-not-have_same_shape w ↦ heads_more shape_summary shape_digest shapes n
            (get same_key c.if-not-have_same_shape.keys) t there
            (is_head shape_summary shapes n head t there like
            (c.have_same_shape.ensures.0 w.if-not-have_same_shape.false))
            (subst (λ m. AreHeadsBefore shape_summary shape_digest shapes n (get same_key m)) (sym w.keys-is)
            c.loop-number.invariant.keys)
      ];
    }

pub returns : goal.returns
returns c =
    let shapes = map shape_of (map arc_value c.args.jobs.now) in
    let long = length-map (map arc_value c.args.jobs.now) shape_of in
    let long' = length-map c.args.jobs.now arc_value in
    let all : c.loop-number.number ≡ length shapes =
    omega (arith, long, long', c.loop-number-test.false, c.loop-number.auto.number-end) in
    all_groups shapes c.loop-number.groups.items c.loop-number.number all c.loop-number.invariant.count
    c.loop-number.invariant.each
