-- The cells of the ports so far.
use Rattle.certificate.proofs.Imports.{map, take, ◌++◌, ◌≡◌}
use Rattle.certificate.proofs.layout_tables.push_port_cells.Given as goal

abbrev pub invariant-loop-port : goal.invariant-loop-port
invariant-loop-port l = l.cells.items ≡ l.fn.cells.items ++ map (λ p. p.cell) (take l.port-index l.ports)
