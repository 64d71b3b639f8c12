use Rattle.section_text.proofs.Imports.{NoForm, OutOfOrder, Some, ahead, ap, arith, common_steps, err_from_is_err_and}
use Rattle.section_text.proofs.Imports.{length_push, line_bytes, section_body_of, sym, words_of, ◌∙◌, ◌≡◌}
use Rattle.section_text.proofs.Steps.{body_none, body_shape, body_header, body_fault, body_more, refused, ran_out}
use Rattle.section_text.proofs.reader.read_item_or_end.Goals as goal

pub returns-in_err-line-clause-err : goal.returns-in_err-line-clause-err
returns-in_err-line-clause-err g c = grind (arith, common_steps, err_from_is_err_and, ran_out, body_none)

pub returns-in-None-clause-err : goal.returns-in-None-clause-err
returns-in-None-clause-err g c =
    let old = c.args.feed.now in
    let mid = c.take.new.self in
    let s = c.args.section.now in
    let G = g.S.Section.grammar s in
    let h = g.S.Section.header s in
    let items = g.S.Section.items s in
    let takes = c.in_ok-line.ensures.next c.requires.feed_not_stopped in
    refused old mid c.refuse.new.self c.in_ok-line.line c.refuse.result
    (section_body_of G h items old.taken (ahead old)) c.requires.feed_not_stopped NoForm takes c.refuse.ensures.answer
    c.refuse.ensures.stop_recorded
    (body_shape G old.taken (ahead old) h items (line_bytes mid c.in_ok-line.line) (ahead mid) takes.ahead
    (sym {b = G.form (words_of (line_bytes mid c.in_ok-line.line))} c.form.ensures ∙ c.in-None.is))

pub returns-in-Some-Header-clause-err : goal.returns-in-Some-Header-clause-err
returns-in-Some-Header-clause-err g c =
    let old = c.args.feed.now in
    let mid = c.take.new.self in
    let s = c.args.section.now in
    let G = g.S.Section.grammar s in
    let h = g.S.Section.header s in
    let items = g.S.Section.items s in
    let takes = c.in_ok-line.ensures.next c.requires.feed_not_stopped in
    refused old mid c.refuse-in-Some-Header.new.self c.in_ok-line.line c.refuse-in-Some-Header.result
    (section_body_of G h items old.taken (ahead old)) c.requires.feed_not_stopped OutOfOrder takes
    c.refuse-in-Some-Header.ensures.answer
    c.refuse-in-Some-Header.ensures.stop_recorded
    (body_header G old.taken (ahead old) h items (line_bytes mid c.in_ok-line.line)
    (ahead mid) takes.ahead c.in-Some-Header.field-0-0
    (sym {b = G.form (words_of (line_bytes mid c.in_ok-line.line))} c.form.ensures ∙ c.in-Some-Header.is
    ∙ ap Some c.in-Some-Header.field-0-is))

pub returns-in-Ok-clause-item : goal.returns-in-Ok-clause-item
returns-in-Ok-clause-item g c = grind (arith, common_steps, body_more, length_push)

pub returns-in-Err-Code-clause-err : goal.returns-in-Err-Code-clause-err
returns-in-Err-Code-clause-err g c =
    let old = c.args.feed.now in
    let mid = c.take.new.self in
    let s = c.args.section.now in
    let G = g.S.Section.grammar s in
    let h = g.S.Section.header s in
    let items = g.S.Section.items s in
    let i = c.in-Some-Item.item in
    let code = c.in-Err-Code.code in
    let takes = c.in_ok-line.ensures.next c.requires.feed_not_stopped in
    let form = sym {b = G.form (words_of (line_bytes mid c.in_ok-line.line))} c.form.ensures ∙ c.in-Some-Item.is
    ∙ ap Some c.in-Some-Item.field-0-is in
    let fault : G.item_fault h items i ≡ Some code = rw c.in-Err-Code.field-0-is at c.in-Err-Code.ensures.fault in
    refused old mid c.refuse-in-Err-Code.new.self c.in_ok-line.line c.refuse-in-Err-Code.result
    (section_body_of G h items old.taken (ahead old)) c.requires.feed_not_stopped code takes
    c.refuse-in-Err-Code.ensures.answer
    c.refuse-in-Err-Code.ensures.stop_recorded
    (body_fault G old.taken (ahead old) h items (line_bytes mid c.in_ok-line.line)
    (ahead mid) takes.ahead i code form fault)
