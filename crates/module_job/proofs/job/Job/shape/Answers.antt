use Rattle.module_job.proofs.Imports.{ap, arc_value, shape_of, sym, ◌∙◌}
use Rattle.module_job.proofs.ShapeParts.{shape_placed}
use Rattle.module_job.proofs.job.Job.shape.Goals as goal

pub returns : goal.returns
returns c =
    let a = c.self.inside in
    sym (shape_placed a.x a.y a.wires.items a.gates.items (arc_value a.shape)) ∙ ap shape_of c.self.view_is
