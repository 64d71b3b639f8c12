use Rattle.certificate_lines.proofs.Imports.{BuilderView, Some, ap, is_last_module_incomplete, last_module}
use Rattle.certificate_lines.proofs.Imports.{option_map, subst, sym, ◌+◌, ◌∙◌, ◌≡◌, ◌≤◌}
use Rattle.certificate_lines.specs.StoredModules.{module_lines}
use Rattle.certificate_lines.specs.declared.stored_module.StoredModule.{StoredModule}
use Rattle.std.proofs.Common.{Bor}
use Rattle.certificate_lines.proofs.Keeping.{lacks, last_fits}
use Rattle.certificate_lines.proofs.builder.Builder.has_nonlocal_port.Goals as goal
use Rattle.lemmas.specs.Bounds.{max_side}

pub has_nonlocal_port-requires : goal.has_nonlocal_port-requires
has_nonlocal_port-requires c =
    let n = c.in-Some.last.now in
    subst (λ (s : BuilderView). last_module s.entries ≡ Some (module_lines s.setting.circuit n) →
    (n.area.x + n.area.w ≤ max_side) × (n.area.y + n.area.h ≤ max_side)) c.self.view_is
    (λ l. last_fits _ _ _ _ _ _ _ c.self.invariant.tracked.kept (module_lines c.self.inside.tables.circuit n) l
    c.prove_valid.ensures)
    (sym c.last_module.ensures.module ∙ ap (option_map (λ (m : Bor StoredModule).
    module_lines c.args.self.now.setting.circuit m.now)) c.in-Some.is)

pub returns-in-Some : goal.returns-in-Some
returns-in-Some c =
    let n = c.in-Some.last.now in
    subst (λ (s : BuilderView). last_module s.entries ≡ Some (module_lines s.setting.circuit n) →
    c.has_nonlocal_port.result ≡ is_last_module_incomplete s.setting (last_module s.entries)) c.self.view_is
    (λ l. c.has_nonlocal_port.ensures
    ∙ lacks _ _ _ _ _ _ _ c.self.invariant.tracked.kept (module_lines c.self.inside.tables.circuit n) l)
    (sym c.last_module.ensures.module ∙ ap (option_map (λ (m : Bor StoredModule).
    module_lines c.args.self.now.setting.circuit m.now)) c.in-Some.is)

pub returns-in-None : goal.returns-in-None
returns-in-None c =
    sym (ap (is_last_module_incomplete c.args.self.now.setting)
    (sym c.last_module.ensures.module ∙ ap (option_map (λ (m : Bor StoredModule).
    module_lines c.args.self.now.setting.circuit m.now)) c.in-None.is))
