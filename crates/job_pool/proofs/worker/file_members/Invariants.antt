-- The findings of the members before this one were filed, and it is a member if it is a number of a job.
use Rattle.job_pool.proofs.Imports.{AreCountsNotLess, length, occurrences, take, ◌+◌, ◌-◌, ◌<◌, ◌≡◌, ◌≤◌}
use Rattle.lemmas.proofs.Common.{slice_index}
use Rattle.job_pool.proofs.worker.file_members.Given as goal

abbrev pub invariant-loop-member : goal.invariant-loop-member
invariant-loop-member g l = record {
  filed : l.share.filed ≡ l.initial.share.filed + occurrences l.number (take l.member l.shared_work.groups.now);
  risen : AreCountsNotLess l.initial.share l.share;
  within : l.member ≤ length l.shared_work.groups.now;
  own : l.member < length l.shared_work.groups.now → slice_index l.shared_work.groups.now l.member ≡ l.number;
}

abbrev pub decreases-loop-member : goal.decreases-loop-member
decreases-loop-member g l = length l.jobs - l.member
