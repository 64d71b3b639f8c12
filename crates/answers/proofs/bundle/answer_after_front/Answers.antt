-- The circuit and the layout, the certificate, and the end of the text.
use Rattle.lemmas.proofs.Common.{IfOk-weaker, ap, ap₂, subst, sym, ◌++◌, ◌∙◌}
use Rattle.circuit.specs.Text.{circuit_text}
use Rattle.pattern.specs.Layout.{parts_of}
use Rattle.meaning.specs.Design.{front_text}
use Rattle.certificate_lines.specs.Settings.{setting_of}
use Rattle.answers.specs.BundleReading.{bundle_of_certificate}
use Rattle.answers.specs.MigrateText.{layout_section_text}
use Rattle.answers.specs.Questions.{AnswersQuestion}
use Rattle.answers.specs.BundleText.{bundle_with_limits}
use Rattle.answers.proofs.Bundles.{bundle_answers, bundle_goes_on, bundle_read, certificate_failed, going_3}
use Rattle.answers.proofs.Bundles.{refusal_answers}
use Rattle.answers.proofs.SectionLines.{bytes_before, bytes_taken, design_bytes, longer, section_lines}
use Rattle.answers.proofs.bundle.answer_after_front.Goals as goal

pub returns-in-Err : goal.returns-in-Err
returns-in-Err c =
    IfOk-weaker c.refusal_answer.result _ _
    (λ answered told. refusal_answers (AnswersQuestion c.args.limits c.args.question)
    (bundle_with_limits c.args.limits c.args.text.now.text) c.in-Err.fault answered.output.items answered.outcome
    c.in-Err.ensures.fault told)
    c.refusal_answer.ensures.refusal_told

pub returns-in-Err-read_certificate : goal.returns-in-Err-read_certificate
returns-in-Err-read_certificate c =
    let fails = certificate_failed c.args.limits c.args.text.now c.read_design.new.text c.requires.front_taken
    c.requires.feed_not_stopped c.in-Ok.design.circuit c.in-Ok.design.layout c.in-Ok.ensures.read
    c.read_certificate.new.text c.in-Err-read_certificate.fault c.in-Err-read_certificate.ensures.reads in
    IfOk-weaker c.refusal_answer-in-Err-read_certificate.result _ _
    (λ answered told. refusal_answers (AnswersQuestion c.args.limits c.args.question)
    (bundle_with_limits c.args.limits c.args.text.now.text) c.in-Err-read_certificate.fault answered.output.items
    answered.outcome fails told)
    c.refusal_answer-in-Err-read_certificate.ensures.refusal_told

pub returns-in-Err-finish : goal.returns-in-Err-finish
returns-in-Err-finish c =
    let going = going_3 c.args.limits c.args.text.now c.read_design.new.text c.requires.front_taken
    c.requires.feed_not_stopped c.in-Ok.design.circuit c.in-Ok.design.layout c.in-Ok.ensures.read
    c.read_certificate.new.text c.in-Ok-read_certificate.cert c.in-Ok-read_certificate.ensures.reads in
    let fails = bundle_goes_on c.args.limits c.args.text.now c.read_design.new.text c.requires.front_taken
    c.requires.feed_not_stopped c.in-Ok.design.circuit c.in-Ok.design.layout c.in-Ok.ensures.read
    c.read_certificate.new.text c.in-Ok-read_certificate.cert c.in-Ok-read_certificate.ensures.reads
    c.in-Err-finish.fault (c.in-Err-finish.ensures.more_is_left going) (c.in-Err-finish.ensures.fault going).0 in
    IfOk-weaker c.refusal_answer-in-Err-finish.result _ _
    (λ answered told. refusal_answers (AnswersQuestion c.args.limits c.args.question)
    (bundle_with_limits c.args.limits c.args.text.now.text) c.in-Err-finish.fault answered.output.items answered.outcome
    fails
    told)
    c.refusal_answer-in-Err-finish.ensures.refusal_told

-- the bytes that were taken before the certificate's section are no more than all
pub migrate-requires : goal.migrate-requires
migrate-requires c =
    let going = going_3 c.args.limits c.args.text.now c.read_design.new.text c.requires.front_taken
    c.requires.feed_not_stopped c.in-Ok.design.circuit c.in-Ok.design.layout c.in-Ok.ensures.read
    c.read_certificate.new.text c.in-Ok-read_certificate.cert c.in-Ok-read_certificate.ensures.reads in
    let done = c.in_default.ensures.ok going in
    longer c.args.limits (setting_of c.in-Ok.design.circuit c.in-Ok.design.layout) c.read_design.new.text
    c.read_certificate.new.text
    c.in-Ok-read_certificate.cert c.in-Ok-read_certificate.ensures.reads c.taken_text-from.result.now
    c.taken_text.result.now c.taken_text-from.ensures (c.taken_text.ensures ∙ ap bytes_taken done.2)

pub returns-in-Modules : goal.returns-in-Modules
returns-in-Modules c =
    let cert = c.in-Ok-read_certificate.cert in
    let going = going_3 c.args.limits c.args.text.now c.read_design.new.text c.requires.front_taken
    c.requires.feed_not_stopped c.in-Ok.design.circuit c.in-Ok.design.layout c.in-Ok.ensures.read
    c.read_certificate.new.text cert c.in-Ok-read_certificate.ensures.reads in
    let done = c.in_default.ensures.ok going in
    let was_read = bundle_read c.args.limits c.args.text.now c.read_design.new.text c.requires.front_taken
    c.requires.feed_not_stopped c.in-Ok.design.circuit c.in-Ok.design.layout c.in-Ok.ensures.read
    c.read_certificate.new.text cert c.in-Ok-read_certificate.ensures.reads
    c.in-Ok-read_certificate.ensures.circuit c.in-Ok-read_certificate.ensures.layout done.0 done.1 in
    IfOk-weaker c.list_modules.result _ _
    (λ answered says. bundle_answers (AnswersQuestion c.args.limits c.args.question)
    (bundle_with_limits c.args.limits c.args.text.now.text) cert answered.output.items answered.outcome was_read
    (subst (λ q. AnswersQuestion c.args.limits q (bundle_of_certificate cert) answered.output.items answered.outcome)
    (sym c.in-Modules.is) says))
    c.list_modules.ensures.says

pub returns-in-Migration : goal.returns-in-Migration
returns-in-Migration c =
    let cert = c.in-Ok-read_certificate.cert in
    let front = front_text c.args.limits in
    let going = going_3 c.args.limits c.args.text.now c.read_design.new.text c.requires.front_taken
    c.requires.feed_not_stopped c.in-Ok.design.circuit c.in-Ok.design.layout c.in-Ok.ensures.read
    c.read_certificate.new.text cert c.in-Ok-read_certificate.ensures.reads in
    let done = c.in_default.ensures.ok going in
    let was_read = bundle_read c.args.limits c.args.text.now c.read_design.new.text c.requires.front_taken
    c.requires.feed_not_stopped c.in-Ok.design.circuit c.in-Ok.design.layout c.in-Ok.ensures.read
    c.read_certificate.new.text cert c.in-Ok-read_certificate.ensures.reads
    c.in-Ok-read_certificate.ensures.circuit c.in-Ok-read_certificate.ensures.layout done.0 done.1 in
    let are_after = c.taken_text.ensures ∙ ap bytes_taken done.2 in
    let design = bytes_before c.args.limits (setting_of c.in-Ok.design.circuit c.in-Ok.design.layout)
    c.read_design.new.text c.read_certificate.new.text cert c.in-Ok-read_certificate.ensures.reads
    c.taken_text-from.result.now c.taken_text.result.now c.taken_text-from.ensures are_after
    ∙ design_bytes c.args.limits c.args.text.now c.read_design.new.text c.in-Ok.design.circuit c.in-Ok.design.layout
    c.requires.own_limits c.requires.front_taken c.in-Ok.ensures.read
    ∙ ap₂ (λ cs p. front ++ (circuit_text cs ++ layout_section_text p.size (parts_of p)))
    (sym c.in-Ok-read_certificate.ensures.circuit) (sym c.in-Ok-read_certificate.ensures.layout) in
    let section = section_lines c.args.limits (setting_of c.in-Ok.design.circuit c.in-Ok.design.layout)
    c.read_design.new.text c.read_certificate.new.text cert c.in-Ok-read_certificate.ensures.reads
    c.taken_text-from.result.now c.taken_text.result.now c.taken_text-from.ensures are_after in
    IfOk-weaker c.migrate.result _ _
    (λ answered says. bundle_answers (AnswersQuestion c.args.limits c.args.question)
    (bundle_with_limits c.args.limits c.args.text.now.text) cert answered.output.items answered.outcome was_read
    (subst (λ q. AnswersQuestion c.args.limits q (bundle_of_certificate cert) answered.output.items answered.outcome)
    (sym c.in-Migration.is)
    (says c.args.limits (bundle_of_certificate cert) (record { design = design; section = section }))))
    c.migrate.ensures
