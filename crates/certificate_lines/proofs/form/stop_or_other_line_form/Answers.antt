use Rattle.certificate_lines.proofs.Imports.{None, Some, arith, common_steps, line_bytes, sym, ◌∙◌}
use Rattle.certificate_lines.proofs.BorderText.{stop_line}
use Rattle.certificate_lines.proofs.form.stop_or_other_line_form.Goals as goal

pub returns-in_err-stop : goal.returns-in_err-stop
returns-in_err-stop c =
    c.from_residual.ensures ∙ stop_line (line_bytes c.args.feed.now c.args.line.now) None
    (grind (arith, common_steps))
    (sym c.in_err-stop.was ∙ c.stop_in.ensures)

pub returns : goal.returns
returns c =
    stop_line (line_bytes c.args.feed.now c.args.line.now) (Some c.in_ok-stop.stop)
    (grind (arith, common_steps))
    (sym c.in_ok-stop.was ∙ c.stop_in.ensures)
