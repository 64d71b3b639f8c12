-- The lines so far are printed.
use Rattle.lemmas.proofs.Common.{◌++◌, ◌≡◌, flat_map, take}
use Rattle.report.specs.ReportText.{report_line_text}
use Rattle.report.proofs.printing.print_lines.Given as goal

abbrev pub invariant-loop-line : goal.invariant-loop-line
invariant-loop-line l = l.text.items ≡ l.fn.text.items ++ flat_map report_line_text (take l.line-index l.lines)
