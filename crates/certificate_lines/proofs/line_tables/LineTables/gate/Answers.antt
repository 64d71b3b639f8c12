use Rattle.certificate_lines.proofs.Imports.{All, Netlist, Setting, subst, ◌<◌}
use Rattle.circuit.specs.Bridge.{netlist_of}
use Rattle.circuit.specs.Meaning.{wires}
use Rattle.circuit.specs.Wiring.{gate_of}
use Rattle.certificate_lines.proofs.WireBounds.{defined_below}
use Rattle.certificate_lines.proofs.line_tables.LineTables.gate.Goals as goal

pub returns-clause-of_the_circuit : goal.returns-clause-of_the_circuit
returns-clause-of_the_circuit c =
    let n : Netlist = netlist_of c.self.inside.circuit.now in
    subst (λ (s : Setting). All (λ w. w < wires s.circuit.netlist) (gate_of c.gate.result).outs) c.self.view_is
    (defined_below n.given n.gates c.of.result (gate_of c.gate.result) c.gates.ensures.gates_ordered c.gate.ensures)
