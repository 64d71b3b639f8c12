use Rattle.lanes.proofs.Imports.{AreBorderNumbersMarked, List, ap, arith, length, subst, sym, ℕ}
use Rattle.lemmas.proofs.Common.{with_items_is}
use Rattle.lanes.proofs.LiveLemmas.{dead_all}
use Rattle.lanes.proofs.marked_planes.MarkedPlanes.new.Goals as goal

pub invariant_of-result-clause-all_dead : goal.invariant_of-result-clause-all_dead
invariant_of-result-clause-all_dead c =
    dead_all c.in_ok-live_marks.live_marks c.in_ok-planes.planes c.in_ok-planes.ensures.all_cells_dead

pub invariant_of-result-clause-all_inner : goal.invariant_of-result-clause-all_inner
invariant_of-result-clause-all_inner c =
    let p = c.in_ok-planes.planes in
    let v = c.deref_mut.ensures.value in
    let items = with_items_is c.in_ok-border_marks.border_marks c.mark_ring_and_halo_numbers.new.marks
    (omega (arith, ap length v, c.in_ok-border_marks.border_marks.ok.0)) in
    let box_coord = c.mark_ring_and_halo_numbers.ensures in
    let box_coord = rw (c.stride.ensures.stride_is_exact, c.rows.ensures.count_is_exact) at box_coord in
    subst (λ (m : List ℕ). AreBorderNumbersMarked p.stride p.rows m) (sym items) box_coord
