-- The boxes of the modules so far.
use Rattle.certificate_lines.proofs.Imports.{map, take, ◌≡◌}
use Rattle.certificate_lines.proofs.stored_module.boxes_of.Given as goal

abbrev pub invariant-loop-module : goal.invariant-loop-module
invariant-loop-module l = l.boxes.items ≡ map (λ m. m.area) (take l.module-index l.modules)
