use Rattle.local_run.proofs.Imports.{arith, subst, sym}
use Rattle.lanes.specs.declared.marked_planes.MarkedPlanes.{MarkedPlanes}
use Rattle.local_run.specs.Scans.{IsHaloAsSignals}
use Rattle.local_run.proofs.run.fault_at_time.Goals as goal
use Rattle.local_run.proofs.run.fault_at_time.Goals.{then-time-eq1+in_default, else-time-eq1}

pub returns-clause-halo : goal.returns-clause-halo
returns-clause-halo c = λ odd. elim c.if-time-eq1.branch [
  | then-time-eq1+in_default w ↦
      subst (λ (m : MarkedPlanes). IsHaloAsSignals c.args.job.now c.args.values.now c.args.time m.planes)
      (sym w.marked_planes-is) w.set_halo_and_find_edge_fault.ensures.halo
  | else-time-eq1 w ↦ absurd (omega (arith, odd, w.if-time-eq1.false))
]
