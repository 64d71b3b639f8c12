-- The grids hold the cells that are taken, those of the line among them.
use Rattle.pattern.proofs.Imports.{LayoutHeader, Pattern, ap, cell_fault, cells_of, in_cells, live, parts_of, refl}
use Rattle.pattern.proofs.Imports.{sym, ◌&&◌, ◌||◌, ◌∙◌}
use Rattle.pattern.proofs.TakenLemmas.{begun_more, ended_more, faultless_is_inside, lies_on}
use Rattle.pattern.proofs.draft.Draft.add.Goals as goal

pub take_cells_if-requires : goal.take_cells_if-requires
take_cells_if-requires c =
    lies_on c.self.inside.cells_taken_at_start c.self.inside.layout.size
    c.prove_valid.ensures.limits
    c.self.invariant.begun_width c.self.invariant.begun_height c.args.part
    (faultless_is_inside c.self.inside.layout.size (parts_of c.self.inside.layout) c.args.part
    (ap (λ (p : Pattern). cell_fault p.size (parts_of p) c.args.part) c.self.view_is
    ∙ sym c.cell_code.ensures ∙ c.in_default.is))

pub take_cells_if-requires-2 : goal.take_cells_if-requires-2
take_cells_if-requires-2 c =
    lies_on c.self.inside.cells_taken_at_end c.self.inside.layout.size
    c.prove_valid.ensures.limits
    c.self.invariant.ended_width c.self.invariant.ended_height c.args.part
    (faultless_is_inside c.self.inside.layout.size (parts_of c.self.inside.layout) c.args.part
    (ap (λ (p : Pattern). cell_fault p.size (parts_of p) c.args.part) c.self.view_is
    ∙ sym c.cell_code.ensures ∙ c.in_default.is))

pub invariant_of-self-2 : goal.invariant_of-self-2
invariant_of-self-2 c =
    let size = ap (λ (s : LayoutHeader). s.w) (sym c.in-Ok.ensures.size) in
    let high = ap (λ (s : LayoutHeader). s.h) (sym c.in-Ok.ensures.size) in
    record {
      begun_width = c.take_cells_if.ensures.size.0 ∙ c.self.invariant.begun_width ∙ size;
      begun_height = c.take_cells_if.ensures.size.1 ∙ c.self.invariant.begun_height ∙ high;
      ended_width = c.take_cells_if-2.ensures.size.0 ∙ c.self.invariant.ended_width ∙ size;
      ended_height = c.take_cells_if-2.ensures.size.1 ∙ c.self.invariant.ended_height ∙ high;
      cells_taken_at_start = begun_more c.self.inside.cells_taken_at_start c.take_cells_if.new.grid
          (parts_of c.self.inside.layout)
          (parts_of c.add.new.self) c.args.part (cells_of c.args.part) refl c.in-Ok.ensures.parts
          c.self.invariant.cells_taken_at_start
          (λ x y. c.take_cells_if.ensures.cells_taken x y
          ∙ ap (λ b. live c.self.inside.cells_taken_at_start x y || (b && in_cells (cells_of c.args.part) x y))
          c.takes_cells_at_start.ensures);
      cells_taken_at_end = ended_more c.self.inside.cells_taken_at_end c.take_cells_if-2.new.grid
          (parts_of c.self.inside.layout)
          (parts_of c.add.new.self) c.args.part
          (cells_of c.args.part) refl c.in-Ok.ensures.parts c.self.invariant.cells_taken_at_end
          (λ x y. c.take_cells_if-2.ensures.cells_taken x y
          ∙ ap (λ b. live c.self.inside.cells_taken_at_end x y || (b && in_cells (cells_of c.args.part) x y))
          c.takes_cells_at_end.ensures);
    }
