use Rattle.core_book.specs.Verdicts.{report_lines_from}
use Rattle.core_book.proofs.ReportLines.{all_modules, one_module_more}
use Rattle.audit_core.proofs.concluding.report_lines_on_modules.Goals as goal

pub loop-number-preserved : goal.loop-number-preserved
loop-number-preserved c =
    let fs = c.args.faults.now in
    let bs = c.args.borders.now in
    one_module_more (report_lines_from 0 fs bs) c.loop-number.lines.items c.push_line_if_some.new.lines.items
    c.push_line_if_some-in-loop-number.new.lines.items c.push_line_if_some-in-loop-number-2.new.lines.items
    c.loop-number.number fs
    bs _
    c.local_line.result c.keep_line.result c.border_line.result c.loop-number-test.true c.requires
    c.local_line.ensures c.keep_line.ensures c.border_line.ensures c.in_ok-push_line_if_some.ensures
    c.in_ok-push_line_if_some-2.ensures
    c.in_ok-push_line_if_some-3.ensures c.loop-number.invariant

pub returns : goal.returns
returns c = all_modules (report_lines_from 0 c.args.faults.now c.args.borders.now) c.loop-number.lines.items
    c.loop-number.number
    c.args.faults.now c.args.borders.now c.loop-number-test.false c.loop-number.invariant
