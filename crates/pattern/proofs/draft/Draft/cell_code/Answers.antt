-- The grids hold the cells that are taken.
use Rattle.pattern.proofs.Imports.{LayoutHeader, ap, arith, cells_of, common_steps, has_taken_cell, parts_of, refl, sym}
use Rattle.pattern.proofs.Imports.{◌∙◌, ◌≡◌}
use Rattle.pattern.proofs.TakenLemmas.{cells_free, cells_taken, lies_on, outside_is_fault, taken_by}
use Rattle.pattern.proofs.draft.Draft.cell_code.Goals.{After-is_any_cell_taken}
use Rattle.pattern.proofs.draft.Draft.cell_code.Goals as goal

pub returns-then-not-is_inside : goal.returns-then-not-is_inside
returns-then-not-is_inside c = grind (arith, common_steps, outside_is_fault)

pub is_any_cell_taken-requires-clause-start_on_part : goal.is_any_cell_taken-requires-clause-start_on_part
is_any_cell_taken-requires-clause-start_on_part c =
    lies_on c.self.inside.cells_taken_at_start c.size.result c.size.ensures.limits
    (c.self.invariant.begun_width ∙ ap (λ (s : LayoutHeader). s.w) (sym c.size.ensures.size))
    (c.self.invariant.begun_height ∙ ap (λ (s : LayoutHeader). s.h) (sym c.size.ensures.size))
    c.args.part.now (sym c.is_inside.ensures ∙ c.if-not-is_inside.false)

pub is_any_cell_taken-requires-clause-end_on_part : goal.is_any_cell_taken-requires-clause-end_on_part
is_any_cell_taken-requires-clause-end_on_part c =
    lies_on c.self.inside.cells_taken_at_end c.size.result c.size.ensures.limits
    (c.self.invariant.ended_width ∙ ap (λ (s : LayoutHeader). s.w) (sym c.size.ensures.size))
    (c.self.invariant.ended_height ∙ ap (λ (s : LayoutHeader). s.h) (sym c.size.ensures.size))
    c.args.part.now (sym c.is_inside.ensures ∙ c.if-not-is_inside.false)

taken_here : (c : After-is_any_cell_taken) →
    c.is_any_cell_taken.result ≡ has_taken_cell (parts_of c.self.inside.layout) c.args.part.now
taken_here c =
    c.is_any_cell_taken.ensures
    ∙ taken_by c.self.inside.cells_taken_at_start c.self.inside.cells_taken_at_end
    (parts_of c.self.inside.layout) c.args.part.now (cells_of c.args.part.now) c.self.invariant.cells_taken_at_start
    c.self.invariant.cells_taken_at_end refl

pub returns-then-is_any_cell_taken : goal.returns-then-is_any_cell_taken
returns-then-is_any_cell_taken c = grind (arith, common_steps, taken_here, cells_taken)

pub returns : goal.returns
returns c = grind (arith, common_steps, taken_here, cells_free)
