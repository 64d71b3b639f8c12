use Rattle.local_run.proofs.Imports.{IsLeastBelow, None, Option, Some, ap, assignments, is_defined_under, is_live, lane}
use Rattle.local_run.proofs.Imports.{not, true, valuation, ℕ, ◌∙◌, ◌≡◌, ◌≢◌}
use Rattle.lemmas.proofs.Common.{is_some}
use Rattle.local_run.proofs.Silence.{right_edge}
use Rattle.local_run.proofs.border.is_edge_correct.Goals as goal

none_from : (n : ℕ) (P : ℕ → Type 0) (o : Option ℕ) → is_some o ≡ not true → IsLeastBelow n P o → IsLeastBelow n P None
none_from n P None e h = h
none_from n P (Some a) e h = cc

pub returns : goal.returns
returns c = λ h. right_edge c.args.job.now c.args.values.now c.args.marked_planes.now.planes c.args.lines.now.time
    c.args.x
    c.args.y c.edge_signal-signal.result c.requires.shows c.edge_signal-signal.ensures.signal_is_exact
    (none_from (assignments c.args.job.now) (λ a. (is_defined_under c.args.values.now a ≡ true)
    × (lane c.args.marked_planes.now.planes a c.args.x c.args.y
    ≢ is_live (valuation c.args.values.now a) c.edge_signal-signal.result)) c.first_difference_where_defined.result
    (c.is_none.ensures ∙ ap not h)
    (rw (c.planes.ensures, c.requires.job_ready.count) at c.first_difference_where_defined.ensures))
