-- The lines of the modules so far.
use Rattle.lemmas.proofs.Common.{◌≡◌, map, take}
use Rattle.certificate_lines.specs.Entries.{line_counts_of, modules_of}
use Rattle.answers.specs.ModulesText.{module_lines}
use Rattle.answers.proofs.modules.print_modules.Given as goal

abbrev pub invariant-loop-number : goal.invariant-loop-number
invariant-loop-number l = l.out.items
    ≡ module_lines 0 (take l.number (map line_counts_of (modules_of l.fn.cert.entries)))
