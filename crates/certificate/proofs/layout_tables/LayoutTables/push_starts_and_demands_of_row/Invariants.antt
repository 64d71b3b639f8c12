-- The cells of the row so far are in the lists.
use Rattle.certificate.proofs.Imports.{AddsStartsAndDemands, circuit_of, row_cells, ◌-◌, ◌≤◌}
use Rattle.certificate.proofs.layout_tables.LayoutTables.push_starts_and_demands_of_row.Given as goal

abbrev pub invariant-loop-x : goal.invariant-loop-x
invariant-loop-x l = record {
  from : l.fn.area.x ≤ l.x;
  most : l.x ≤ l.end;
  added : AddsStartsAndDemands (circuit_of l.self.circuit) l.self.layout l.locals
      (row_cells l.fn.area.x (l.x - l.fn.area.x) l.y)
      l.fn.lists l.lists;
}

abbrev pub decreases-loop-x : goal.decreases-loop-x
decreases-loop-x l = l.end - l.x
