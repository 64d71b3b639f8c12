use Rattle.certificate.proofs.Imports.{CircuitAndPorts, Dead, IsPortWireLocalAt, LayoutTablesView, None, Option, Some}
use Rattle.certificate.proofs.Imports.{ap, arith, circuit_of, circuit_wire, common_steps, demand_outside_mirrors}
use Rattle.certificate.proofs.Imports.{end_demand, option_map, port_at, refl, subst, sym, wire_of, ℕ, ℤ, ◌∙◌, ◌≡◌}
use Rattle.module_job.specs.declared.job.Demand.TheVariants.{Wire, Any}
use Rattle.certificate.proofs.LayoutTableLemmas.{demand_of_port, end_live, end_port, no_port_there, port_known}
use Rattle.certificate.proofs.layout_tables.LayoutTables.demand_at.Goals as goal

-- the wires of the port at a cell, in a table and by name
abbrev wires_at : CircuitAndPorts → ℤ → ℤ → Option (Option ℕ)
wires_at t x y = option_map (wire_of t.circuit) (port_at t.ports x y)

pub returns-then-is_live-clause-same_demand : goal.returns-then-is_live-clause-same_demand
returns-then-is_live-clause-same_demand c = grind (arith, common_steps, end_live)

pub local_wire_number-requires : goal.local_wire_number-requires
local_wire_number-requires c =
    port_known (circuit_of c.self.inside.circuit.now) c.args.locals.now.circuit_wires
    (port_at c.self.inside.layout.now.outs c.args.cell.x c.args.cell.y) c.in-Some-port.wire
    (subst (λ (s : LayoutTablesView). IsPortWireLocalAt
    (circuit_of s.circuit) c.args.locals.now.circuit_wires s.layout.outs c.args.cell.x c.args.cell.y)
    (sym c.self.view_is) c.requires)
    (grind (arith, common_steps))

pub returns-in-Some-port-clause-same_demand : goal.returns-in-Some-port-clause-same_demand
returns-in-Some-port-clause-same_demand c =
    let a = c.self.inside in let x = c.args.cell.x in let y = c.args.cell.y in
    subst (λ (s : LayoutTablesView). Wire (circuit_wire c.args.locals.now c.local_wire_number.result)
    ≡ end_demand (circuit_of s.circuit) s.layout x y) c.self.view_is
    (ap Wire c.local_wire_number.ensures.same_wire
    ∙ demand_of_port (circuit_of a.circuit.now) (port_at a.layout.now.outs x y)
    (Some c.in-Some-port.wire) _ (grind (arith, common_steps))
    ∙ end_port (circuit_of a.circuit.now) a.layout.now x y c.is_live.result
    (c.is_live.ensures ∙ c.self.invariant.mirrors x y) c.if-is_live.false _ refl)

pub returns-then-is_live-2-clause-same_demand : goal.returns-then-is_live-2-clause-same_demand
returns-then-is_live-2-clause-same_demand c =
    let a = c.self.inside in let x = c.args.cell.x in let y = c.args.cell.y in
    subst (λ (s : LayoutTablesView). Any ≡ end_demand (circuit_of s.circuit) s.layout x y) c.self.view_is
    (ap (demand_outside_mirrors (circuit_of a.circuit.now) None)
    (sym c.if-is_live-2.true ∙ c.is_live-2.ensures ∙ c.self.invariant.wastes x y)
    ∙ end_port (circuit_of a.circuit.now) a.layout.now x y c.is_live.result
    (c.is_live.ensures ∙ c.self.invariant.mirrors x y) c.if-is_live.false None
    (no_port_there (circuit_of a.circuit.now) _
    (c.in_default.ensures ∙ ap (λ t. wires_at t x y) c.self.invariant.ports.outputs)))

pub returns-else-is_live-2-clause-same_demand : goal.returns-else-is_live-2-clause-same_demand
returns-else-is_live-2-clause-same_demand c =
    let a = c.self.inside in let x = c.args.cell.x in let y = c.args.cell.y in
    subst (λ (s : LayoutTablesView). Dead ≡ end_demand (circuit_of s.circuit) s.layout x y) c.self.view_is
    (ap (demand_outside_mirrors (circuit_of a.circuit.now) None)
    (sym c.if-is_live-2.false ∙ c.is_live-2.ensures ∙ c.self.invariant.wastes x y)
    ∙ end_port (circuit_of a.circuit.now) a.layout.now x y c.is_live.result
    (c.is_live.ensures ∙ c.self.invariant.mirrors x y) c.if-is_live.false None
    (no_port_there (circuit_of a.circuit.now) _
    (c.in_default.ensures ∙ ap (λ t. wires_at t x y) c.self.invariant.ports.outputs)))
