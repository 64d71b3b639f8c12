use Rattle.pattern.proofs.Imports.{has, map, take, ◌++◌, ◌≡◌}
use Rattle.lemmas.proofs.Common.{filter}
use Rattle.pattern.proofs.run.push_cells_of_ports_on.Given as goal

abbrev pub invariant-loop-port : goal.invariant-loop-port
invariant-loop-port l = l.out.items
    ≡ l.fn.out.items ++ map (λ q. q.cell) (filter (λ q. has l.on.keys q.name) (take l.port-index l.ports))
