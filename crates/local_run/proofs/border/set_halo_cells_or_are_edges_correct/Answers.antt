use Rattle.local_run.proofs.Imports.{IsEdgeCorrectAt, IsHaloCellAsSignal, and_parts, arith, ℕ, ◌∙◌}
use Rattle.local_run.proofs.Silence.{four_cells}
use Rattle.lanes.proofs.SettledLemmas.{settled_twice}
use Rattle.local_run.proofs.border.set_halo_cells_or_are_edges_correct.Goals as goal

pub returns-clause-edges : goal.returns-clause-edges
returns-clause-edges c = λ h.
    let all = and_parts _ _ h in
    let three = and_parts _ _ all.0 in
    let two = and_parts _ _ three.0 in
    λ x y lx ly ex ey. four_cells c.args.column c.args.row
    (λ (x y : ℕ). IsEdgeCorrectAt c.args.job.now c.args.values.now c.args.lines.now.time x y)
    (c.set_halo_or_is_edge_correct-first.ensures.edge two.0) (c.set_halo_or_is_edge_correct-second.ensures.edge two.1)
    (c.set_halo_or_is_edge_correct-third.ensures.edge three.1)
    (c.set_halo_or_is_edge_correct-fourth.ensures.edge all.1) x y ex ey

pub returns-clause-halo : goal.returns-clause-halo
returns-clause-halo c =
    let e1 = c.set_halo_or_is_edge_correct-first.ensures in
    let e2 = c.set_halo_or_is_edge_correct-second.ensures in
    let e3 = c.set_halo_or_is_edge_correct-third.ensures in
    let e4 = c.set_halo_or_is_edge_correct-fourth.ensures in
    λ x y lx ly ex ey. four_cells c.args.column c.args.row
    (λ (x y : ℕ). IsHaloCellAsSignal c.args.job.now c.args.values.now c.args.lines.now.time
    c.set_halo_or_is_edge_correct-fourth.new.marked_planes.planes x y)
    (λ a l out. e4.rest a _ _ l (omega arith) (λ s. let s0 = s.0 in omega arith)
    ∙ e3.rest a _ _ l (omega arith) (λ s. let s1 = s.1 in omega arith)
    ∙ e2.rest a _ _ l (omega arith) (λ s. let s0 = s.0 in omega arith) ∙ e1.halo a l out)
    (λ a l out. e4.rest a _ _ l (omega arith) (λ s. let s1 = s.1 in omega arith)
    ∙ e3.rest a _ _ l (omega arith) (λ s. let s1 = s.1 in omega arith) ∙ e2.halo a l out)
    (λ a l out. e4.rest a _ _ l (omega arith) (λ s. let s0 = s.0 in omega arith) ∙ e3.halo a l out)
    e4.halo x y ex ey

pub returns-clause-rest : goal.returns-clause-rest
returns-clause-rest c =
    let e1 = c.set_halo_or_is_edge_correct-first.ensures in
    let e2 = c.set_halo_or_is_edge_correct-second.ensures in
    let e3 = c.set_halo_or_is_edge_correct-third.ensures in
    let e4 = c.set_halo_or_is_edge_correct-fourth.ensures in
    λ a x y la lx out. e4.rest a x y la lx (λ s. let h = s in out (omega (arith, h.0), omega (arith, h.1)))
    ∙ e3.rest a x y la lx (λ s. let h = s in out (omega (arith, h.0), omega (arith, h.1)))
    ∙ e2.rest a x y la lx (λ s. let h = s in out (omega (arith, h.0), omega (arith, h.1)))
    ∙ e1.rest a x y la lx (λ s. let h = s in out (omega (arith, h.0), omega (arith, h.1)))

pub returns-clause-settled : goal.returns-clause-settled
returns-clause-settled c =
    let m = c.args.marked_planes.now in
    let m1 = c.set_halo_or_is_edge_correct-first.new.marked_planes in
    let m2 = c.set_halo_or_is_edge_correct-second.new.marked_planes in
    let m3 = c.set_halo_or_is_edge_correct-third.new.marked_planes in
    let m4 = c.set_halo_or_is_edge_correct-fourth.new.marked_planes in
    settled_twice m m1 m4 c.set_halo_or_is_edge_correct-first.ensures.settled
    (settled_twice m1 m2 m4 c.set_halo_or_is_edge_correct-second.ensures.settled
    (settled_twice m2 m3 m4 c.set_halo_or_is_edge_correct-third.ensures.settled
    c.set_halo_or_is_edge_correct-fourth.ensures.settled))
