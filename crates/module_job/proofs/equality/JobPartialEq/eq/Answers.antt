use Rattle.module_job.proofs.Imports.{ap₂, arc_value, nat_eq, pointwise, rules, same_job, same_shape, ◌&&◌, ◌∙◌, ◌≡◌}
use Rattle.module_job.proofs.EqualJobs.{parts_tell}
use Rattle.module_job.proofs.equality.JobPartialEq.eq.Goals as goal

pub returns : goal.returns
returns c =
    let a = c.self.inside in
    let b = c.other.inside in
    let wires : c.eq-wires.result ≡ pointwise nat_eq a.wires.items b.wires.items = search rules in
    let gates : c.eq-gates.result ≡ pointwise nat_eq a.gates.items b.gates.items = search rules in
    let shape : c.eq-shape.result ≡ same_shape (arc_value a.shape) (arc_value b.shape) = search rules in
    (λ i. (((nat_eq a.x b.x && nat_eq a.y b.y) && wires i) && gates i) && shape i)
    ∙ parts_tell a.x a.y b.x b.y a.wires.items a.gates.items b.wires.items b.gates.items (arc_value a.shape)
    (arc_value b.shape)
    ∙ ap₂ same_job c.self.view_is c.other.view_is
