use Rattle.lanes.proofs.Imports.{arith, sym, ◌∙◌}
use Rattle.lanes.proofs.InsideLemmas.{not_last}
use Rattle.lanes.proofs.marked_planes.MarkedPlanes.is_row_end.Goals as goal

pub returns-else-is_marked-clause-not_row_end : goal.returns-else-is_marked-clause-not_row_end
returns-else-is_marked-clause-not_row_end c = λ h e.
    let f = c.args.self.now in
    let wide = f.planes.some.2 in
    let marked = rw c.deref.ensures.value at c.is_marked.ensures in
    not_last f.planes.stride f.planes.rows c.args.u f.border_marks.items (omega (arith, wide)) f.all_inner c.requires
    (sym marked ∙ h)
