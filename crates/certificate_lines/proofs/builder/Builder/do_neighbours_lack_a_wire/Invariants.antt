-- None of the lines so far.
use Rattle.certificate_lines.proofs.Imports.{does_neighbour_lack_wire, false, list_any, modules_of, take, ◌≡◌}
use Rattle.certificate_lines.specs.StoredModules.{border_line}
use Rattle.certificate_lines.proofs.builder.Builder.do_neighbours_lack_a_wire.Given as goal

abbrev pub invariant-loop-line : goal.invariant-loop-line
invariant-loop-line l = list_any (λ b. does_neighbour_lack_wire l.self.setting.circuit (modules_of l.self.entries)
    (border_line l.self.setting.circuit b)) (take l.line-index l.lines) ≡ false
