use Rattle.module_box.proofs.Imports.{IfSome, LocalNet, ap, circuit_wire, get_or, is_among, is_some, subst, ℕ, ◌∙◌, ◌≡◌}
use Rattle.module_box.proofs.WireLists.{place_among, place_holds}
use Rattle.module_box.proofs.locals.Locals.number_in_module.Goals as goal

pub returns-clause-found_if_known : goal.returns-clause-found_if_known
returns-clause-found_if_known c =
    ap is_some c.number-2.ensures ∙ place_among c.self.inside.circuit_wires c.number.result
    ∙ ap (is_among c.self.inside.circuit_wires) c.number.ensures
    ∙ ap (λ (l : LocalNet). is_among l.circuit_wires c.args.wire) c.self.view_is

pub returns-clause-same_wire : goal.returns-clause-same_wire
returns-clause-same_wire c =
    subst (λ (l : LocalNet). IfSome c.number-2.result (λ i. circuit_wire l i ≡ c.args.wire)) c.self.view_is
    (subst (λ (w : ℕ). IfSome c.number-2.result (λ i. get_or c.self.inside.circuit_wires i 0 ≡ w)) c.number.ensures
    (place_holds c.self.inside.circuit_wires c.number.result c.number-2.result c.number-2.ensures))
