use Rattle.pattern.proofs.Imports.{EndsWithCells, LeavesLayoutAt, Pattern, arith, common_steps, has, live, pattern_of}
use Rattle.pattern.proofs.Imports.{start, subst, sym, ℤ, ◌≡◌}
use Rattle.pattern.proofs.InsideLemmas.{size_sides}
use Rattle.pattern.proofs.PlaneRuns.{leaves_at, ends_with}
use Rattle.pattern.proofs.run.run_plain.Goals as goal

pub returns-in-Some : goal.returns-in-Some
returns-in-Some c =
    let on = has c.args.on.now in
    let g = c.in_ok-grid.grid in
    let cells_taken_at_start = subst (λ (p : Pattern). (x y : ℤ) → live g x y ≡ start p on x y)
    (sym c.layout.view_is) c.in_ok-grid.ensures.cells in
    subst (λ (p : Pattern). LeavesLayoutAt p on c.in-Some.step) c.layout.view_is
    (leaves_at (pattern_of c.layout.inside) on g _ cells_taken_at_start c.in-Some.ensures.run)

pub live_cells_in_order-requires-clause-sides_at_most_max_side :
    goal.live_cells_in_order-requires-clause-sides_at_most_max_side
live_cells_in_order-requires-clause-sides_at_most_max_side c = grind (arith, common_steps, size_sides)

pub returns : goal.returns
returns c =
    let on = has c.args.on.now in
    let g = c.in_ok-grid.grid in
    let cells_taken_at_start = subst (λ (p : Pattern). (x y : ℤ) → live g x y ≡ start p on x y)
    (sym c.layout.view_is) c.in_ok-grid.ensures.cells in
    subst (λ (p : Pattern). EndsWithCells p on c.in_ok-live_cells_in_order-in-None.field-0.items) c.layout.view_is
    (ends_with (pattern_of c.layout.inside) on g c.run_until_leaving.new.grid _ cells_taken_at_start
    c.in-None.ensures.run
    c.in_ok-live_cells_in_order-in-None.ensures)
