use Rattle.border_match.proofs.Imports.{Some, arc_value, arith, jobs_of, length-map, slice_get, slice_get-get_or, ◌≡◌}
use Rattle.border_match.proofs.Cells.{job_at}
use Rattle.border_match.proofs.Least.{better_for}
use Rattle.border_match.proofs.Steps.{edges_named}
use Rattle.border_match.proofs.borders.Borders.least_with_edges_of_module.Goals as goal

pub least_with_edge_events-requires-clause-numbered : goal.least_with_edge_events-requires-clause-numbered
least_with_edge_events-requires-clause-numbered c =
    job_at arc_value c.args.self.now.jobs.now c.args.number _ c.deref.result.now c.requires.number c.deref.ensures

pub least_with_edge_events-requires-clause-extent : goal.least_with_edge_events-requires-clause-extent
least_with_edge_events-requires-clause-extent c =
    c.requires.extents.holds c.args.number _
    (slice_get-get_or c.args.extents.now c.args.number _ (omega (
      arith,
      c.requires.number,
      c.requires.extents.sized,
      length-map c.args.self.now.jobs.now arc_value,
    ))) c.deref.result.now
    (job_at arc_value c.args.self.now.jobs.now c.args.number _ _ c.requires.number c.deref.ensures)

pub returns : goal.returns
returns c =
    let b = c.args.self.now in
    let other = c.deref.result.now in
    let got : slice_get (jobs_of b) c.args.number ≡ Some other =
    job_at arc_value b.jobs.now c.args.number _ other c.requires.number c.deref.ensures in
    record {
      better = better_for _ _ _ _ _ c.least_with_edge_events.ensures.better
          (λ h f p. edges_named b c.args.number other h got p);
      marked = c.least_with_edge_events.ensures.marked;
    }
