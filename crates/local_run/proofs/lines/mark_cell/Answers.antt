use Rattle.local_run.proofs.Imports.{rules, sym, w32, ◌∙◌, ◌≡◌}
use Rattle.local_run.proofs.QuietLemmas.{cell_marked}
use Rattle.local_run.proofs.Steady.{number_of_cell}
use mir.Val.{to_z, of_z}
use Rattle.local_run.proofs.lines.mark_cell.Goals as goal

pub returns-clause-marked : goal.returns-clause-marked
returns-clause-marked c =
    let ex : to_z w32 (of_z w32 c.args.cell.x) ≡ c.args.cell.x = search rules in
    let ey : to_z w32 (of_z w32 c.args.cell.y) ≡ c.args.cell.y = search rules in
    let own = rw c.cell_line_mark_number.ensures.number at c.mark-2.ensures in
    cell_marked c.args.area c.args.cell c.in-Some.x c.in-Some-number_from_halo.y c.args.marks.now c.mark.new.marks
    c.mark-2.new.marks (sym ex ∙ c.in-Some.ensures.1) (sym ey ∙ c.in-Some-number_from_halo.ensures.1) c.mark.ensures own

pub returns-clause-number : goal.returns-clause-number
returns-clause-number c =
    let ex : to_z w32 (of_z w32 c.args.cell.x) ≡ c.args.cell.x = search rules in
    let ey : to_z w32 (of_z w32 c.args.cell.y) ≡ c.args.cell.y = search rules in
    number_of_cell c.args.area c.args.cell c.in-Some.x c.in-Some-number_from_halo.y c.requires.4 c.requires.5
    c.in-Some.ensures.0 c.in-Some-number_from_halo.ensures.0 (sym ex ∙ c.in-Some.ensures.1)
    (sym ey ∙ c.in-Some-number_from_halo.ensures.1)
