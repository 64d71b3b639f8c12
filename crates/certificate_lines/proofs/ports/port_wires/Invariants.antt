-- The wires of the ports so far.
use Rattle.certificate_lines.proofs.Imports.{circuit_of, map, take, wire_of, ◌≡◌}
use Rattle.certificate_lines.proofs.ports.port_wires.Given as goal

abbrev pub invariant-loop-port : goal.invariant-loop-port
invariant-loop-port l = l.wires.items ≡ map (λ p. wire_of (circuit_of l.circuit) p.name) (take l.port-index l.ports)
