use Rattle.certificate_lines.proofs.Imports.{Bool, CircuitAndPorts, Setting, ap, ap₂, circuit_of, in_box, is_local}
use Rattle.certificate_lines.proofs.Imports.{is_nonlocal_signal, list_any, not, port_at, rectangle_cells, subst, ◌&&◌}
use Rattle.certificate_lines.proofs.Imports.{◌||◌, ◌∙◌, ◌≡◌}
use Rattle.certificate_lines.proofs.TableLemmas.{both_ports}
use Rattle.certificate_lines.proofs.line_tables.LineTables.has_nonlocal_port.Goals as goal

pub returns : goal.returns
returns c =
    let a = c.self.inside in let ports = c.self.invariant.ports in let local = c.args.known.now.wires in
    let lacks : CircuitAndPorts → Bool = λ t.
    list_any (λ d. is_nonlocal_signal t.circuit local (port_at t.ports d.x d.y)) (rectangle_cells c.args.area) in
    subst (λ (g : Setting). (c.has_box_nonlocal_port-lacks_input.result || c.has_box_nonlocal_port-lacks_output.result)
    ≡ list_any (λ p. in_box c.args.area p.cell.x p.cell.y && not (is_local g.circuit local p.name)) g.ports)
    c.self.view_is
    (ap₂ (λ p q. p || q) (c.has_box_nonlocal_port-lacks_input.ensures ∙ ap lacks ports.inputs)
    (c.has_box_nonlocal_port-lacks_output.ensures ∙ ap lacks ports.outputs)
    ∙ both_ports a.layout.now.ins a.layout.now.outs ports.ins_apart ports.outs_apart c.args.area
    (circuit_of a.circuit.now) local)
