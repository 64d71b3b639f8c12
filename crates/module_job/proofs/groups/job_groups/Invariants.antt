-- The jobs before have their groups. The maps have the first number of each summary, and of each key of a shape that
-- differs from the first with its summary.
use Rattle.module_job.proofs.Imports.{IsFirstEqualElement, List, arc_value, get, length, map, same_key, shape_digest}
use Rattle.module_job.proofs.Imports.{shape_of, shape_summary, slice_index, ℕ, ◌<◌, ◌≡◌}
use Rattle.module_job.proofs.FirstKeys.{IsFirstOf}
use Rattle.module_job.proofs.FirstSummaries.{AreHeadsBefore}
use Rattle.module_job.proofs.groups.job_groups.Given as goal

abbrev pub invariant-loop-number : goal.invariant-loop-number
invariant-loop-number l = record {
  count : length l.groups.items ≡ l.number;
  each : (k : ℕ) → k < l.number →
      IsFirstEqualElement (map shape_of (map arc_value l.jobs)) k (slice_index l.groups.items k);
  summaries : (summary : List ℕ) →
      IsFirstOf (map shape_summary (map shape_of (map arc_value l.jobs))) l.number summary
      (get same_key l.summaries summary);
  keys : AreHeadsBefore shape_summary shape_digest (map shape_of (map arc_value l.jobs)) l.number (get same_key l.keys);
}
