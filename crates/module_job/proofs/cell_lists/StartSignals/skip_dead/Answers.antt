use Rattle.module_job.proofs.Imports.{Zero, ap, signal_from_number, slice_get, sym, unwrap_or, ◌∙◌}
use Rattle.module_job.proofs.NumberedCells.{start_found}
use Rattle.module_job.proofs.cell_lists.StartSignals.skip_dead.Goals as goal

pub returns-clause-passed_dead : goal.returns-clause-passed_dead
returns-clause-passed_dead c u from before =
    sym (ap (λ cells. unwrap_or (slice_get cells u) Zero) c.self.view_is) ∙ sym (start_found c.self.inside.numbers u)
    ∙ ap signal_from_number (c.skip_zeros.ensures.zeros u from before)
