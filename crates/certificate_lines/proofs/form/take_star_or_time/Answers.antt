use Rattle.certificate_lines.proofs.Imports.{None, Some, arith, common_steps, sym, take_rest, words_of, ◌∙◌}
use Rattle.certificate_lines.proofs.BorderText.{number_time, star_time}
use Rattle.certificate_lines.proofs.form.take_star_or_time.Goals as goal

pub returns-then-begins_with_star : goal.returns-then-begins_with_star
returns-then-begins_with_star c = grind (arith, common_steps, take_rest, star_time)

pub returns-in_err-time : goal.returns-in_err-time
returns-in_err-time c = rw c.from_residual.ensures (number_time c.args.line.now None
    (sym c.begins_with_star.ensures ∙ c.if-begins_with_star.false) c.in_err-time.ensures.number)

pub returns : goal.returns
returns c = number_time c.args.line.now (Some (c.in_ok-time.time, words_of c.in_ok-time.rest.now))
    (sym c.begins_with_star.ensures ∙ c.if-begins_with_star.false) c.in_ok-time.ensures.number
