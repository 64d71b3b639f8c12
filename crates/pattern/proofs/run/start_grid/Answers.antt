use Rattle.pattern.proofs.Imports.{All, Cell, Pattern, ap, arith, has, in_cells, pattern_of, start, sym, true, ℤ, ◌∙◌}
use Rattle.pattern.proofs.Imports.{◌≡◌}
use Rattle.lemmas.proofs.Common.{All-same}
use Rattle.bbm_rule.specs.Board.{is_inside}
use Rattle.pattern.proofs.InsideLemmas.{size_sides, begins_inside, start_inside}
use Rattle.pattern.proofs.PlaneRuns.{among, inside_is_layout}
use Rattle.pattern.proofs.run.start_grid.Goals as goal

pub new-requires-clause-width : goal.new-requires-clause-width
new-requires-clause-width c = let side = (size_sides c.layout.inside.size c.layout.invariant.size).0 in
    (side.least, omega (arith, side.most), side.even)

pub new-requires-clause-height : goal.new-requires-clause-height
new-requires-clause-height c = let side = (size_sides c.layout.inside.size c.layout.invariant.size).1 in
    (side.least, omega (arith, side.most), side.even)

pub make_live-requires : goal.make_live-requires
make_live-requires c =
    let p : Pattern = pattern_of c.layout.inside in
    let on = has c.args.on.now in
    let grid = c.in_ok-grid.grid in
    let cells = c.in_ok-cells.cells.items in
    let cells_taken_at_start : (x y : ℤ) → in_cells cells x y ≡ true → start p on x y ≡ true =
    λ x y e. ap (λ (q : Pattern). start q on x y) c.layout.view_is ∙ sym (c.in_ok-cells.ensures.cells x y) ∙ e in
    let inside : (x y : ℤ) → in_cells cells x y ≡ true → is_inside grid x y ≡ true =
    λ x y e. inside_is_layout grid p.size c.in_ok-grid.ensures.size.0 c.in_ok-grid.ensures.size.1 x y
    ∙ start_inside p on (begins_inside p c.layout.invariant.parts) x y (cells_taken_at_start x y e) in
    let all : All (λ (q : Cell). is_inside grid q.x q.y ≡ true) cells = λ k d lt. inside _ _ (among cells k d lt) in
    All-same (λ (q : Cell). is_inside grid q.x q.y ≡ true) _ cells c.as_slice.ensures.value all
