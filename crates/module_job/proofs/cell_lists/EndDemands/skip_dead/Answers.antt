use Rattle.module_job.proofs.Imports.{ap, demand_from_number, slice_get, sym, unwrap_or, ◌∙◌}
use Rattle.module_job.specs.declared.job.Demand.TheVariants.{Dead}
use Rattle.module_job.proofs.NumberedCells.{demand_found}
use Rattle.module_job.proofs.cell_lists.EndDemands.skip_dead.Goals as goal

pub returns-clause-passed_dead : goal.returns-clause-passed_dead
returns-clause-passed_dead c u from before =
    sym (ap (λ cells. unwrap_or (slice_get cells u) Dead) c.self.view_is) ∙ sym (demand_found c.self.inside.numbers u)
    ∙ ap demand_from_number (c.skip_zeros.ensures.zeros u from before)
