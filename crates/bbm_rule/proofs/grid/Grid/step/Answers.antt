use Rattle.bbm_rule.proofs.Imports.{ap, arith, common_steps, length, with_items, with_items_is, ◌%◌, ◌*◌, ◌+◌, ◌-◌, ◌/◌}
use Rattle.bbm_rule.proofs.Imports.{◌≡◌}
use Rattle.bbm_rule.proofs.GridLemmas.{plane_of, grid_of, board_of_words, margin_kept}
use Rattle.bbm_rule.proofs.BoardLemmas.{even_plane, even_step, odd_plane, odd_step, odd_leaves, undone, board_same}
use Rattle.bbm_rule.proofs.BoardLemmas.{plane_same}
use Rattle.bbm_rule.proofs.grid.Grid.step.Goals as goal

pub invariant_of-self : goal.invariant_of-self
invariant_of-self c = grind (arith, common_steps, grid_of, with_items_is, even_plane, plane_of)

pub returns-then-t-eq0-clause-stepped : goal.returns-then-t-eq0-clause-stepped
returns-then-t-eq0-clause-stepped c =
    let g = c.self.inside in let ok = c.self.invariant in
    let rows = rw c.deref_mut.ensures.value at c.turn_all_shifted.ensures.turned in
    let long : length c.turn_all_shifted.new.words ≡ length g.words.items =
    omega (arith, c.turn_all_shifted.auto.words, ap length c.deref_mut.ensures.value) in
    let items = with_items_is g.words c.turn_all_shifted.new.words (omega (arith, g.words.ok.0)) in
    rw (
      ← c.self.view_is,
      board_of_words g (with_items g.words c.turn_all_shifted.new.words)
          (with_items g.even_marks c.turn_all_shifted.new.own)
          (with_items g.odd_marks c.turn_all_shifted.new.others) c.turn_all_shifted.new.words items,
    ) (even_step c.args.t g.width g.height (64 * g.stride) (g.height / 2) g.words.items _ c.if-t-eq0.true
    (plane_of g ok) rows (omega (arith, ok.height.2)))

pub has_live_margin-requires-clause-unmarked : goal.has_live_margin-requires-clause-unmarked
has_live_margin-requires-clause-unmarked c = grind (arith, common_steps, with_items_is, margin_kept, plane_of)

pub returns-then-has_live_margin-clause-cell_leaves_on_error :
    goal.returns-then-has_live_margin-clause-cell_leaves_on_error
returns-then-has_live_margin-clause-cell_leaves_on_error c =
    grind (arith, common_steps, with_items_is, odd_leaves, plane_of)

pub invariant_of-self-then-has_live_margin : goal.invariant_of-self-then-has_live_margin
invariant_of-self-then-has_live_margin c =
    let g = c.self.inside in let ok = c.self.invariant in
    let first = c.turn_all_aligned.new.words in
    let rows = rw c.deref_mut-2.ensures.value at c.turn_all_aligned.ensures.turned in
    let long : length first ≡ length g.words.items =
    omega (arith, c.turn_all_aligned.auto.words, ap length c.deref_mut-2.ensures.value) in
    let items = with_items_is g.words first (omega (arith, g.words.ok.0)) in
    let long_e : length c.turn_all_aligned.new.others ≡ length g.even_marks.items =
    omega (arith, c.turn_all_aligned.auto.others, ap length c.deref_mut-4.ensures.value) in
    let long_o : length c.turn_all_aligned.new.own ≡ length g.odd_marks.items =
    omega (arith, c.turn_all_aligned.auto.own, ap length c.deref_mut-3.ensures.value) in
    let items_e = with_items_is g.even_marks c.turn_all_aligned.new.others (omega (arith, g.even_marks.ok.0)) in
    let items_o = with_items_is g.odd_marks c.turn_all_aligned.new.own (omega (arith, g.odd_marks.ok.0)) in
    let second = c.turn_all_aligned-then-has_live_margin.new.words in
    let rows' = rw (c.deref_mut-then-has_live_margin.ensures.value, items) at
    c.turn_all_aligned-then-has_live_margin.ensures.turned in
    let long' : length second ≡ length g.words.items = omega (
      arith,
      c.turn_all_aligned-then-has_live_margin.auto.words,
      ap length c.deref_mut-then-has_live_margin.ensures.value,
      ap length items,
    ) in
    let items' = with_items_is (with_items g.words first) second (omega (arith, g.words.ok.0)) in
    let plane = plane_of g ok in
    let same = undone (64 * g.stride) (g.height / 2 + 1) g.words.items first second plane.row
    (omega (arith, plane.room)) rows rows' in
    let again_e : length c.turn_all_aligned-then-has_live_margin.new.others ≡ length g.even_marks.items = omega (
      arith,
      c.turn_all_aligned-then-has_live_margin.auto.others,
      ap length c.deref_mut-then-has_live_margin-3.ensures.value,
      ap length items_e,
    ) in
    let again_o : length c.turn_all_aligned-then-has_live_margin.new.own ≡ length g.odd_marks.items = omega (
      arith,
      c.turn_all_aligned-then-has_live_margin.auto.own,
      ap length c.deref_mut-then-has_live_margin-2.ensures.value,
      ap length items_o,
    ) in
    let whole : g.height / 2 + 1 - 1 ≡ g.height / 2 = omega arith in
    grid_of g _ _ _ second c.turn_all_aligned-then-has_live_margin.new.others
    c.turn_all_aligned-then-has_live_margin.new.own ok items'
    (with_items_is (with_items g.even_marks c.turn_all_aligned.new.others)
    c.turn_all_aligned-then-has_live_margin.new.others (omega (arith, g.even_marks.ok.0)))
    (with_items_is (with_items g.odd_marks c.turn_all_aligned.new.own) c.turn_all_aligned-then-has_live_margin.new.own
    (omega (arith, g.odd_marks.ok.0)))
    long' again_e again_o
    (plane_same g.width g.height (64 * g.stride) g.words.items second same plane)
    (rw whole at c.turn_all_aligned-then-has_live_margin.ensures.others_calm)
    c.turn_all_aligned-then-has_live_margin.ensures.own_calm

pub returns-then-has_live_margin-clause-unchanged_on_error : goal.returns-then-has_live_margin-clause-unchanged_on_error
returns-then-has_live_margin-clause-unchanged_on_error c =
    grind (arith, common_steps, with_items_is, plane_of, undone, board_of_words, board_same)

pub invariant_of-self-else-has_live_margin : goal.invariant_of-self-else-has_live_margin
invariant_of-self-else-has_live_margin c =
    let g = c.self.inside in let ok = c.self.invariant in
    let first = c.turn_all_aligned.new.words in
    let rows = rw c.deref_mut-2.ensures.value at c.turn_all_aligned.ensures.turned in
    let long : length first ≡ length g.words.items =
    omega (arith, c.turn_all_aligned.auto.words, ap length c.deref_mut-2.ensures.value) in
    let items = with_items_is g.words first (omega (arith, g.words.ok.0)) in
    let long_e : length c.turn_all_aligned.new.others ≡ length g.even_marks.items =
    omega (arith, c.turn_all_aligned.auto.others, ap length c.deref_mut-4.ensures.value) in
    let long_o : length c.turn_all_aligned.new.own ≡ length g.odd_marks.items =
    omega (arith, c.turn_all_aligned.auto.own, ap length c.deref_mut-3.ensures.value) in
    let items_e = with_items_is g.even_marks c.turn_all_aligned.new.others (omega (arith, g.even_marks.ok.0)) in
    let items_o = with_items_is g.odd_marks c.turn_all_aligned.new.own (omega (arith, g.odd_marks.ok.0)) in
    let dead = rw (c.deref.ensures.value, items) at (c.has_live_margin.ensures.all_dead c.if-has_live_margin.false) in
    let whole : g.height / 2 + 1 - 1 ≡ g.height / 2 = omega arith in
    grid_of g _ _ _ first c.turn_all_aligned.new.others c.turn_all_aligned.new.own ok items items_e items_o long long_e
    long_o
    (odd_plane g.width g.height (64 * g.stride) (g.height / 2 + 1) g.words.items first (plane_of g ok) rows
    (omega (arith, ok.height.2)) dead)
    (rw whole at c.turn_all_aligned.ensures.others_calm) c.turn_all_aligned.ensures.own_calm

pub returns-clause-stepped : goal.returns-clause-stepped
returns-clause-stepped c =
    let g = c.self.inside in let ok = c.self.invariant in
    let odd : c.args.t % 2 ≡ 1 = omega (arith, c.if-t-eq0.false) in
    let first = c.turn_all_aligned.new.words in
    let rows = rw c.deref_mut-2.ensures.value at c.turn_all_aligned.ensures.turned in
    let long : length first ≡ length g.words.items =
    omega (arith, c.turn_all_aligned.auto.words, ap length c.deref_mut-2.ensures.value) in
    let items = with_items_is g.words first (omega (arith, g.words.ok.0)) in
    let dead = rw (c.deref.ensures.value, items) at (c.has_live_margin.ensures.all_dead c.if-has_live_margin.false) in
    let e : 2 * (g.height / 2 + 1) ≡ g.height + 2 = omega (arith, ok.height.2) in
    let plane = plane_of g ok in
    let plane' = odd_plane g.width g.height (64 * g.stride) (g.height / 2 + 1) g.words.items first plane rows e dead in
    rw (
      ← c.self.view_is,
      board_of_words g (with_items g.words first) (with_items g.even_marks c.turn_all_aligned.new.others)
          (with_items g.odd_marks c.turn_all_aligned.new.own) first items,
    ) (odd_step c.args.t g.width g.height (64 * g.stride)
    (g.height / 2 + 1) g.words.items first odd plane plane' rows e)
