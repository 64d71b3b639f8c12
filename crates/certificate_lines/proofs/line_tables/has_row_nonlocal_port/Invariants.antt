-- Whether a port at the cells so far has a wire that is not local.
use Rattle.certificate_lines.proofs.Imports.{is_nonlocal_signal, list_any, port_at, row_cells, ◌-◌, ◌≡◌}
use Rattle.certificate_lines.proofs.line_tables.has_row_nonlocal_port.Given as goal

abbrev pub invariant-loop-column : goal.invariant-loop-column
invariant-loop-column l = l.lacks
    ≡ list_any (λ c. is_nonlocal_signal l.ports.circuit l.known.wires (port_at l.ports.ports c.x c.y))
    (row_cells l.x (l.column - l.x) l.y)
