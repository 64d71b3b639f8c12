use Rattle.lemmas.proofs.Common.{◌++◌, ◌≡◌, drop}
use Rattle.core_book.specs.Verdicts.{report_lines_from}
use Rattle.audit_core.proofs.concluding.report_lines_on_modules.Given as goal

-- the lines so far and those on the other modules are all lines
abbrev pub invariant-loop-number : goal.invariant-loop-number
invariant-loop-number l = l.lines.items ++ report_lines_from l.number (drop l.number l.faults) (drop l.number l.borders)
    ≡ report_lines_from 0 l.faults l.borders
