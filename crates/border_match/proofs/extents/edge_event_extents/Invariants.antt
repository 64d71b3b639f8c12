-- Each job so far has its extent.
use Rattle.border_match.proofs.Imports.{IsEdgeEventExtent, JobView, Some, Window, arc_value, map, slice_get, vec_len, ℕ}
use Rattle.border_match.proofs.Imports.{◌≡◌}
use Rattle.border_match.proofs.extents.edge_event_extents.Given as goal

abbrev pub invariant-loop-job : goal.invariant-loop-job
invariant-loop-job l = record {
  sized : vec_len l.extents ≡ l.job-index;
  holds : (k : ℕ) (w : Window) → slice_get l.extents.items k ≡ Some w → (j : JobView) →
      slice_get (map arc_value l.jobs) k ≡ Some j → IsEdgeEventExtent j w;
}
