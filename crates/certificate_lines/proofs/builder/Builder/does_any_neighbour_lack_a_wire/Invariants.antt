-- None of the edge lines of the modules so far.
use Rattle.certificate_lines.proofs.Imports.{does_neighbour_lack_wire, false, list_any, modules_of, take, ◌≡◌}
use Rattle.certificate_lines.specs.StoredModules.{border_line}
use Rattle.certificate_lines.proofs.builder.Builder.does_any_neighbour_lack_a_wire.Given as goal

abbrev pub invariant-loop-module : goal.invariant-loop-module
invariant-loop-module l = list_any (λ m. list_any (λ b. does_neighbour_lack_wire l.self.setting.circuit
    (modules_of l.self.entries) (border_line l.self.setting.circuit b)) m.edges.items)
    (take l.module-index l.module-items) ≡ false
