use Rattle.local_run.proofs.Imports.{AreStarredCellMarks, shape_of, ◌-◌}
use Rattle.local_run.proofs.LeapRuns.{InRun}
use Rattle.local_run.specs.Steady.{MatchesStarsWhereSettled}
use Rattle.local_run.proofs.run.least_fault.Given as goal

abbrev pub invariant-loop-time : goal.invariant-loop-time
invariant-loop-time l = record {
  run : InRun l.job l.values l.time l.next l.marked_planes.planes l.changed;
  steady : MatchesStarsWhereSettled l.job l.values l.marked_planes l.lines.events.items;
  lines : AreStarredCellMarks (shape_of l.job) l.lines.all_times.items;
}

abbrev pub decreases-loop-time : goal.decreases-loop-time
decreases-loop-time l = l.steps - l.time
