-- What the cells of the rows so far carry and must be.
use Rattle.certificate.proofs.Imports.{IsDemandWireBelow, IsSignalWireBelow, circuit_of, circuit_wire, end_demand, map}
use Rattle.certificate.proofs.Imports.{range_with_len, renumber_demand, renumber_signal, row_cells, start_signal, wires}
use Rattle.certificate.proofs.Imports.{◌-◌, ◌≡◌}
use Rattle.std.specs.List.{All, flat_map}
use Rattle.certificate.proofs.layout_tables.LayoutTables.start_and_demand_lists.Given as goal

abbrev pub invariant-loop-y : goal.invariant-loop-y
invariant-loop-y l = record {
  starts : map (renumber_signal (circuit_wire l.locals)) l.lists.starts
      ≡ map (λ c. start_signal (circuit_of l.self.circuit) l.self.layout c.x c.y)
      (flat_map (row_cells l.area.x l.area.w) (range_with_len l.area.y (l.y - l.area.y)));
  starts_own : All (IsSignalWireBelow (wires l.locals.netlist)) l.lists.starts;
  demands : map (renumber_demand (circuit_wire l.locals)) l.lists.demands
      ≡ map (λ c. end_demand (circuit_of l.self.circuit) l.self.layout c.x c.y)
      (flat_map (row_cells l.area.x l.area.w) (range_with_len l.area.y (l.y - l.area.y)));
  demands_own : All (IsDemandWireBelow (wires l.locals.netlist)) l.lists.demands;
}
