use Rattle.lemmas.proofs.Common.{◌++◌, ◌≡◌, flat_map, take}
use Rattle.core_book.specs.Verdicts.{timing_report_line}
use Rattle.report.specs.ReportText.{report_line_text}
use Rattle.report.proofs.printing.print_timing_lines.Given as goal

abbrev pub invariant-loop-line : goal.invariant-loop-line
invariant-loop-line l = l.text.items
    ≡ l.initial.text.items ++ flat_map (λ t. report_line_text (timing_report_line t)) (take l.line-index l.times)
