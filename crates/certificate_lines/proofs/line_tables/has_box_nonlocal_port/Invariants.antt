-- Whether a port in the rows so far has a wire that is not local.
use Rattle.certificate_lines.proofs.Imports.{is_nonlocal_signal, list_any, port_at, range_with_len, row_cells, ◌-◌, ◌≡◌}
use Rattle.std.specs.List.{flat_map}
use Rattle.certificate_lines.proofs.line_tables.has_box_nonlocal_port.Given as goal

abbrev pub invariant-loop-y : goal.invariant-loop-y
invariant-loop-y l = l.lacks
    ≡ list_any (λ c. is_nonlocal_signal l.ports.circuit l.known.wires (port_at l.ports.ports c.x c.y))
    (flat_map (row_cells l.area.x l.area.w) (range_with_len l.area.y (l.y - l.area.y)))
