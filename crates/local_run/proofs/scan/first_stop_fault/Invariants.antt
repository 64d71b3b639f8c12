use Rattle.local_run.proofs.Imports.{length, ◌-◌}
use Rattle.local_run.proofs.StopScans.{AreTried}
use Rattle.local_run.proofs.scan.first_stop_fault.Given as goal

abbrev pub invariant-stops : goal.invariant-stops
invariant-stops l = AreTried l.job l.values l.time l.place

abbrev pub decreases-stops : goal.decreases-stops
decreases-stops l = length l.job.stops - l.place
