use Rattle.certificate.proofs.Imports.{CircuitAndPorts, IsPortWireLocalAt, LayoutTablesView, Option, Some, Zero, ap}
use Rattle.certificate.proofs.Imports.{arith, circuit_of, circuit_wire, common_steps, option_map, port_at, refl}
use Rattle.certificate.proofs.Imports.{start_signal, subst, sym, wire_of, wire_or_zero, ℕ, ℤ, ◌∙◌, ◌≡◌}
use Rattle.module_box.specs.declared.schedules.Signal.TheVariants.{Wire}
use Rattle.certificate.proofs.LayoutTableLemmas.{no_port_there, port_known, port_wire, start_one, start_port}
use Rattle.certificate.proofs.layout_tables.LayoutTables.start_at.Goals as goal

-- the wires of the port at a cell, in a table and by name
abbrev wires_at : CircuitAndPorts → ℤ → ℤ → Option (Option ℕ)
wires_at t x y = option_map (wire_of t.circuit) (port_at t.ports x y)

pub returns-then-mirror-ball-clause-same_signal : goal.returns-then-mirror-ball-clause-same_signal
returns-then-mirror-ball-clause-same_signal c = grind (arith, common_steps, start_one)

pub local_wire_number-requires : goal.local_wire_number-requires
local_wire_number-requires c =
    port_known (circuit_of c.self.inside.circuit.now) c.args.locals.now.circuit_wires
    (port_at c.self.inside.layout.now.ins c.args.cell.x c.args.cell.y) c.in-Some-Some.wire
    (subst (λ (s : LayoutTablesView). IsPortWireLocalAt
    (circuit_of s.circuit) c.args.locals.now.circuit_wires s.layout.ins c.args.cell.x c.args.cell.y)
    (sym c.self.view_is) c.requires)
    (grind (arith, common_steps))

pub returns-in-Some-Some-clause-same_signal : goal.returns-in-Some-Some-clause-same_signal
returns-in-Some-Some-clause-same_signal c =
    let a = c.self.inside in let x = c.args.cell.x in let y = c.args.cell.y in
    subst (λ (s : LayoutTablesView). Wire (circuit_wire c.args.locals.now c.local_wire_number.result)
    ≡ start_signal (circuit_of s.circuit) s.layout x y) c.self.view_is
    (ap Wire c.local_wire_number.ensures.same_wire
    ∙ ap wire_or_zero (port_wire (circuit_of a.circuit.now) (port_at a.layout.now.ins x y)
    (Some c.in-Some-Some.wire) (grind (arith, common_steps)))
    ∙ start_port (circuit_of a.circuit.now) a.layout.now x y c.is_live-mirror.result c.is_live-ball.result
    (c.is_live-mirror.ensures ∙ c.self.invariant.mirrors x y)
    (c.is_live-ball.ensures ∙ c.self.invariant.balls x y) c.if-mirror-ball.false _ refl)

pub returns-in-None-clause-same_signal : goal.returns-in-None-clause-same_signal
returns-in-None-clause-same_signal c =
    let a = c.self.inside in let x = c.args.cell.x in let y = c.args.cell.y in
    subst (λ (s : LayoutTablesView). Zero ≡ start_signal (circuit_of s.circuit) s.layout x y) c.self.view_is
    (start_port (circuit_of a.circuit.now) a.layout.now x y c.is_live-mirror.result c.is_live-ball.result
    (c.is_live-mirror.ensures ∙ c.self.invariant.mirrors x y)
    (c.is_live-ball.ensures ∙ c.self.invariant.balls x y) c.if-mirror-ball.false _
    (no_port_there (circuit_of a.circuit.now) _
    (c.in-None.ensures ∙ ap (λ t. wires_at t x y) c.self.invariant.ports.inputs)))
