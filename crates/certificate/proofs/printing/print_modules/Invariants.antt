-- The modules so far are printed.
use Rattle.certificate.proofs.Imports.{circuit_of, entry_text, flat_map, lines_of_modules, take, ◌++◌, ◌≡◌}
use Rattle.certificate.proofs.printing.print_modules.Given as goal

abbrev pub invariant-loop-module : goal.invariant-loop-module
invariant-loop-module l = l.out.items ≡ l.fn.out.items
    ++ flat_map entry_text (lines_of_modules (circuit_of l.circuit) (take l.module-index l.modules))
