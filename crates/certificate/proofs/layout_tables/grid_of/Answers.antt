use Rattle.certificate.proofs.Imports.{ap, arith, get_or, in_cells, size_sides, ◌||◌, ◌∙◌}
use Rattle.pattern.proofs.PlaneRuns.{inside_is_layout}
use Rattle.certificate.proofs.layout_tables.grid_of.Goals as goal

pub new-requires-clause-width : goal.new-requires-clause-width
new-requires-clause-width c = let side = (size_sides c.args.size c.requires.limits).0 in
    (side.least, omega (arith, side.most), side.even)

pub new-requires-clause-height : goal.new-requires-clause-height
new-requires-clause-height c = let side = (size_sides c.args.size c.requires.limits).1 in
    (side.least, omega (arith, side.most), side.even)

pub make_live-requires : goal.make_live-requires
make_live-requires c k d within = let cell = get_or c.args.cells.now k d in
    inside_is_layout c.in_ok-grid.grid c.args.size c.in_ok-grid.ensures.size.0 c.in_ok-grid.ensures.size.1
    cell.x cell.y
    ∙ c.requires.inside k d within

pub returns-clause-cells : goal.returns-clause-cells
returns-clause-cells c x y = c.make_live.ensures.cells_taken x y
    ∙ ap (λ dead. dead || in_cells c.args.cells.now x y) (c.in_ok-grid.ensures.all_cells_dead x y)
