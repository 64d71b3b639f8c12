use Rattle.circuit.proofs.Imports.{ap, form_of, sym, words_of, ◌∙◌}
use Rattle.circuit.proofs.LoneNames.{input_line, output_line, spill_line}
use Rattle.circuit.proofs.form.line_form.Goals as goal

pub returns-then-begins_as_output : goal.returns-then-begins_as_output
returns-then-begins_as_output c = c.lone_name_form.ensures
    ∙ output_line c.line-bytes.result.now (sym c.begins_as_output.ensures ∙ c.if-begins_as_output.true)
    ∙ ap (λ t. form_of (words_of t)) c.line-bytes.ensures

pub returns-then-begins_as_input : goal.returns-then-begins_as_input
returns-then-begins_as_input c = c.lone_name_form-then-begins_as_input.ensures
    ∙ input_line c.line-bytes.result.now (sym c.begins_as_input.ensures ∙ c.if-begins_as_input.true)
    ∙ ap (λ t. form_of (words_of t)) c.line-bytes.ensures

pub returns-then-begins_as_spill : goal.returns-then-begins_as_spill
returns-then-begins_as_spill c = c.lone_name_form-then-begins_as_spill.ensures
    ∙ spill_line c.line-bytes.result.now (sym c.begins_as_spill.ensures ∙ c.if-begins_as_spill.true)
    ∙ ap (λ t. form_of (words_of t)) c.line-bytes.ensures
