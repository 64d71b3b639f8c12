-- The lines so far are printed.
use Rattle.pattern.proofs.Imports.{flat_map, line_text, port_words, take, ◌++◌, ◌≡◌}
use Rattle.pattern.proofs.printing.print_ports.Given as goal

abbrev pub invariant-loop-port : goal.invariant-loop-port
invariant-loop-port l = l.out.items
    ≡ l.fn.out.items ++ flat_map (λ p. line_text l.word (port_words p)) (take l.port-index l.ports)
