use Rattle.certificate.proofs.Imports.{drop, modules_of, setting_of, unkept, unkept_gates_from, ◌++◌, ◌≡◌}
use Rattle.certificate.proofs.cert.Cert.unkept.Given as goal

abbrev pub invariant-loop-number : goal.invariant-loop-number
invariant-loop-number l = l.gates.items
    ++ unkept_gates_from (modules_of l.self.entries) l.number
    (drop l.number (setting_of l.self.circuit l.self.layout).circuit.netlist.gates)
    ≡ unkept (setting_of l.self.circuit l.self.layout) (modules_of l.self.entries)
