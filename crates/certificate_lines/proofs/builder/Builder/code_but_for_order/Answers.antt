use Rattle.certificate_lines.proofs.Imports.{BuilderView, Some, ap, ap₂, arith, code_but_for_order, common_steps, cuts}
use Rattle.certificate_lines.proofs.Imports.{gates, known, last_module, length, subst, sym, wire_of, ◌∙◌, ◌≡◌}
use Rattle.std.specs.Option.{option_and_then}
use Rattle.certificate_lines.specs.Entries.{wire_name_in_line}
use Rattle.certificate_lines.specs.Rules.{cut_line_code, use_line_code}
use Rattle.certificate_lines.proofs.Keeping.{last_known}
use Rattle.certificate_lines.proofs.StoredLemmas.{cut_count, used_gates}
use Rattle.certificate_lines.proofs.builder.Builder.code_but_for_order.Goals as goal

pub returns-in-Cut : goal.returns-in-Cut
returns-in-Cut c m last is =
    let d = c.args.self.now.setting.circuit in
    let same = subst (λ (s : BuilderView). last_module s.entries ≡ Some m →
    c.self.inside.known.wires ≡ known s.setting.circuit m) c.self.view_is
    (last_known _ _ _ _ _ _ _ c.self.invariant.tracked.kept m) last in
    let counted : c.len.result ≡ length c.args.last.now.cuts.items = grind (arith, common_steps) in
    c.cut_code.ensures d c.in-Cut.field-0
    (c.requires.wire ∙ ap (λ i. option_and_then (wire_of d) (wire_name_in_line i)) c.in-Cut.is)
    ∙ ap₂ (λ n local. cut_line_code d n local c.in-Cut.field-0)
    (counted ∙ cut_count d c.args.last.now ∙ ap (λ n. length (cuts n)) (sym is)) same
    ∙ ap (code_but_for_order c.args.self.now.setting m) (sym c.in-Cut.is)

pub returns-in-Use : goal.returns-in-Use
returns-in-Use c m last is =
    let counted : c.len-in-Use.result ≡ length c.args.last.now.gates.items = grind (arith, common_steps) in
    let all = counted ∙ ap length (used_gates c.args.self.now.setting.circuit c.args.last.now ∙ ap gates (sym is)) in
    subst (λ (s : BuilderView). last_module s.entries ≡ Some m →
    c.use_code.result ≡ use_line_code s.setting.circuit (length (gates m)) (known s.setting.circuit m) c.in-Use.number)
    c.self.view_is
    (λ l. c.use_code.ensures ∙ ap₂ (λ n local. use_line_code c.self.inside.tables.circuit n local c.in-Use.number) all
    (last_known _ _ _ _ _ _ _ c.self.invariant.tracked.kept m l)) last
    ∙ ap (code_but_for_order c.args.self.now.setting m) (sym c.in-Use.is)
