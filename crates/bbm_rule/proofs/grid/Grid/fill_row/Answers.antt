use Rattle.bbm_rule.proofs.Imports.{ap, arith, length, with_items, with_items_is, ◌*◌, ◌+◌, ◌≡◌}
use Rattle.bbm_rule.proofs.BandLemmas.{row_changed}
use Rattle.bbm_rule.proofs.GridLemmas.{plane_of, fill_plane, filled_cells, grid_of, board_of_words}
use Rattle.bbm_rule.proofs.grid.Grid.fill_row.Goals as goal

pub invariant_of-self : goal.invariant_of-self
invariant_of-self c =
    let columns = rw (← c.self.view_is) at c.requires.columns in
    let row = rw (← c.self.view_is) at c.requires.row in
    let g = c.self.inside in
    let ok = c.self.invariant in
    let plane = plane_of g ok in
    let place = 64 * g.stride * (c.args.y + 1) + (c.args.x + 1) in
    let fills = rw c.deref_mut.ensures.value at c.fill_cells.ensures in
    let evens = rw c.deref_mut-2.ensures.value at c.mark.ensures in
    let odds = rw c.deref_mut-3.ensures.value at c.mark-2.ensures in
    let long : length c.fill_cells.new.words ≡ length g.words.items =
    omega (arith, ap length c.deref_mut.ensures.value) in
    let long_e : length c.mark.new.marks ≡ length g.even_marks.items =
    omega (arith, c.mark.auto.marks, ap length c.deref_mut-2.ensures.value) in
    let long_o : length c.mark-2.new.marks ≡ length g.odd_marks.items =
    omega (arith, c.mark-2.auto.marks, ap length c.deref_mut-3.ensures.value) in
    grid_of g _ _ _ c.fill_cells.new.words c.mark.new.marks c.mark-2.new.marks ok
    (with_items_is g.words c.fill_cells.new.words (omega (arith, g.words.ok.0)))
    (with_items_is g.even_marks c.mark.new.marks (omega (arith, g.even_marks.ok.0)))
    (with_items_is g.odd_marks c.mark-2.new.marks (omega (arith, g.odd_marks.ok.0)))
    long long_e long_o
    (fill_plane g.width g.height (64 * g.stride) g.words.items c.fill_cells.new.words c.args.x c.args.y c.args.width
    plane columns row fills)
    (row_changed (64 * g.stride + 1) (64 * g.stride) _ c.args.x c.args.y c.args.width place g.even_marks.items _
    g.words.items _ plane.row (omega (arith, plane.room, columns)) (omega arith) fills.before fills.after evens
    ok.even_calm)
    (row_changed 0 (64 * g.stride) _ (c.args.x + 1) (c.args.y + 1) c.args.width place g.odd_marks.items _ g.words.items
    _ plane.row (omega (arith, plane.room, columns)) (omega arith) fills.before fills.after odds ok.odd_calm)

pub returns-clause-cells : goal.returns-clause-cells
returns-clause-cells c = λ u v.
    let columns = rw (← c.self.view_is) at c.requires.columns in
    let row = rw (← c.self.view_is) at c.requires.row in
    let g = c.self.inside in
    let fills = rw c.deref_mut.ensures.value at c.fill_cells.ensures in
    let long : length c.fill_cells.new.words ≡ length g.words.items =
    omega (arith, ap length c.deref_mut.ensures.value) in
    let items = with_items_is g.words c.fill_cells.new.words (omega (arith, g.words.ok.0)) in
    rw (
      ← c.self.view_is,
      board_of_words g (with_items g.words c.fill_cells.new.words) (with_items g.even_marks c.mark.new.marks)
          (with_items g.odd_marks c.mark-2.new.marks) c.fill_cells.new.words items,
    ) (filled_cells g.width g.height (64 * g.stride) g.words.items c.fill_cells.new.words c.args.x c.args.y c.args.width
    (plane_of g c.self.invariant) columns row fills u v)
