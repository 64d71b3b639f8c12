-- The line of a refusal is the answer to what fails so.
use Rattle.lemmas.proofs.Common.{IfOk-weaker}
use Rattle.answers.specs.ValueText.{SaysValues, value_sections_with_limits}
use Rattle.answers.proofs.Bundles.{refusal_answers}
use Rattle.answers.proofs.value.value_after_front.Goals as goal

pub returns-in-Err : goal.returns-in-Err
returns-in-Err c =
    IfOk-weaker c.refusal_answer.result _ _
    (λ answered told. refusal_answers SaysValues
    (value_sections_with_limits c.args.limits c.args.feed.now.text) c.in-Err.fault answered.output.items
    answered.outcome
    c.in-Err.ensures
    told)
    c.refusal_answer.ensures.refusal_told
