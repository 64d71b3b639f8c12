use Rattle.lemmas.proofs.Common.{◌++◌, ◌≡◌, map, take}
use Rattle.core_book.specs.Verdicts.{timing_report_line}
use Rattle.audit_core.proofs.concluding.push_timing_report_lines.Given as goal

abbrev pub invariant-loop-line : goal.invariant-loop-line
invariant-loop-line l = l.lines.items ≡ l.initial.lines.items ++ map timing_report_line (take l.line-index l.times)
