use Rattle.job_pool.proofs.Imports.{AreCountsNotLess, IsSeatOf, drawn_by, due_finding_count, false, past_last, ◌+◌, ◌-◌}
use Rattle.job_pool.proofs.Imports.{◌≡◌}
use Rattle.job_pool.proofs.worker.Worker.run.Given as goal

-- so far as many findings were filed as were due
abbrev pub invariant-loop-number : goal.invariant-loop-number
invariant-loop-number g l = record {
  seat : IsSeatOf l.shared_work.desk.now l.self.seat;
  starved : l.self.starved ≡ false;
  risen : AreCountsNotLess l.initial.self.share l.self.share;
  filed : l.self.share.filed ≡ l.initial.self.share.filed + due_finding_count l.shared_work.groups.now
      (drawn_by l.self.seat);
}

abbrev pub decreases-loop-number : goal.decreases-loop-number
decreases-loop-number g l = l.shared_work.desk.now.numbers - past_last l.self.seat.drawn.items
