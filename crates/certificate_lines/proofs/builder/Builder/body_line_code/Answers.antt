use Rattle.certificate_lines.proofs.Imports.{BuilderView, OutOfOrder, Some, ap, body_line_code, code_but_for_order}
use Rattle.certificate_lines.proofs.Imports.{last_module, option_map, refl, subst, sym, ◌∙◌, ◌≡◌}
use Rattle.certificate_lines.specs.StoredModules.{module_lines}
use Rattle.certificate_lines.specs.declared.stored_module.StoredModule.{StoredModule}
use Rattle.std.proofs.Common.{Bor}
use Rattle.certificate_lines.proofs.Keeping.{too_late, in_place}
use Rattle.certificate_lines.proofs.builder.Builder.body_line_code.Goals as goal

pub returns-in_default : goal.returns-in_default
returns-in_default c =
    sym (ap (λ o. body_line_code c.args.self.now.setting o c.args.entry.now)
    (sym c.last_module.ensures.module ∙ ap (option_map (λ (m : Bor StoredModule).
    module_lines c.args.self.now.setting.circuit m.now)) c.in_default.is))

pub returns-then-not-may_follow : goal.returns-then-not-may_follow
returns-then-not-may_follow c =
    let n = c.in-Some.last.now in
    subst (λ (s : BuilderView). last_module s.entries ≡ Some (module_lines s.setting.circuit n) →
    Some OutOfOrder ≡ body_line_code s.setting (last_module s.entries) c.args.entry.now) c.self.view_is
    (λ l. too_late _ _ _ _ _ _ _ c.self.invariant.tracked.kept (module_lines c.self.inside.tables.circuit n)
    c.args.entry.now c.may_follow.result l
    (λ lines order last. c.may_follow.ensures _ lines c.self.invariant.tracked.key_is order last)
    c.if-not-may_follow.true)
    (sym c.last_module.ensures.module ∙ ap (option_map (λ (m : Bor StoredModule).
    module_lines c.args.self.now.setting.circuit m.now)) c.in-Some.is)

pub code_but_for_order-requires-clause-within_limit : goal.code_but_for_order-requires-clause-within_limit
code_but_for_order-requires-clause-within_limit c = c.in-Some.ensures.within_limit

pub returns : goal.returns
returns c =
    let n = c.in-Some.last.now in
    let some = sym c.last_module.ensures.module ∙ ap (option_map (λ (m : Bor StoredModule).
    module_lines c.args.self.now.setting.circuit m.now)) c.in-Some.is in
    subst (λ (s : BuilderView). last_module s.entries ≡ Some (module_lines s.setting.circuit n) →
    c.code_but_for_order.result ≡ code_but_for_order s.setting (module_lines s.setting.circuit n) c.args.entry.now →
    c.code_but_for_order.result ≡ body_line_code s.setting (last_module s.entries) c.args.entry.now) c.self.view_is
    (λ l good. in_place _ _ _ _ _ _ _ c.self.invariant.tracked.kept (module_lines c.self.inside.tables.circuit n)
    c.args.entry.now c.may_follow.result c.code_but_for_order.result l
    (λ lines order last. c.may_follow.ensures _ lines c.self.invariant.tracked.key_is order last)
    c.if-not-may_follow.false good)
    some (c.code_but_for_order.ensures (module_lines c.args.self.now.setting.circuit n) some refl)
