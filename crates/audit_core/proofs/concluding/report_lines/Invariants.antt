use Rattle.lemmas.proofs.Common.{◌++◌, ◌≡◌, map, take}
use Rattle.core_book.specs.Verdicts.{report_lines_from}
use Rattle.core_book.specs.declared.verdict.ReportLine.TheVariants.{Unkept}
use Rattle.audit_core.proofs.concluding.report_lines.Given as goal

-- the lines on the modules, and those on the gates so far
abbrev pub invariant-loop-gate : goal.invariant-loop-gate
invariant-loop-gate l = l.lines.items
    ≡ report_lines_from 0 l.faults l.borders ++ map (λ n. Unkept n) (take l.gate-index l.unkept)
