use Rattle.local_run.proofs.run.set_halo_and_find_edge_fault.Goals as goal

pub returns-clause-halo : goal.returns-clause-halo
returns-clause-halo c = rw c.mark_lines_at.ensures.time at c.set_halo_and_check_ring.ensures.halo

pub returns-then-set_halo_and_check_ring-clause-halo : goal.returns-then-set_halo_and_check_ring-clause-halo
returns-then-set_halo_and_check_ring-clause-halo c =
    rw c.mark_lines_at.ensures.time at c.set_halo_and_check_ring.ensures.halo

pub returns-then-set_halo_and_check_ring-clause-fault : goal.returns-then-set_halo_and_check_ring-clause-fault
returns-then-set_halo_and_check_ring-clause-fault c =
    rw c.mark_lines_at.ensures.time at (c.set_halo_and_check_ring.ensures.edges c.if-set_halo_and_check_ring.true)
