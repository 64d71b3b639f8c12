use Rattle.certificate_lines.proofs.Imports.{None, Some, ap, form_of, sym, words_of, ◌∙◌}
use Rattle.certificate_lines.proofs.BorderText.{cut_line, use_line}
use Rattle.certificate_lines.proofs.form.other_line_form.Goals as goal

pub returns-in_err-number : goal.returns-in_err-number
returns-in_err-number c = c.from_residual.ensures
    ∙ use_line c.line-bytes.result.now None (sym c.begins_as_use.ensures ∙ c.if-begins_as_use.true)
    c.in_err-number.ensures.number ∙ ap (λ t. form_of (words_of t)) c.line-bytes.ensures

pub returns-then-begins_as_use : goal.returns-then-begins_as_use
returns-then-begins_as_use c =
    use_line c.line-bytes.result.now (Some c.in_ok-number.number)
    (sym c.begins_as_use.ensures ∙ c.if-begins_as_use.true)
    c.in_ok-number.ensures.number ∙ ap (λ t. form_of (words_of t)) c.line-bytes.ensures

pub returns-in_err-name : goal.returns-in_err-name
returns-in_err-name c = c.from_residual-in_err-name.ensures
    ∙ cut_line c.line-bytes.result.now None (sym c.begins_as_cut.ensures ∙ c.if-begins_as_cut.true)
    c.in_err-name.ensures ∙ ap (λ t. form_of (words_of t)) c.line-bytes.ensures

pub returns-then-begins_as_cut : goal.returns-then-begins_as_cut
returns-then-begins_as_cut c =
    cut_line c.line-bytes.result.now (Some c.in_ok-name.name) (sym c.begins_as_cut.ensures ∙ c.if-begins_as_cut.true)
    c.in_ok-name.ensures ∙ ap (λ t. form_of (words_of t)) c.line-bytes.ensures
