use Rattle.certificate_lines.proofs.Imports.{BuilderView, IfSome, ap, last_module, length, option_map, slice_get, subst}
use Rattle.certificate_lines.proofs.Imports.{◌-◌, ◌∙◌, ◌≡◌}
use Rattle.certificate_lines.specs.declared.stored_module.StoredModule.{StoredModule}
use Rattle.std.proofs.Common.{Bor}
use Rattle.certificate_lines.specs.BuilderView.{builder_lines}
use Rattle.certificate_lines.specs.Modules.{IsWithinLineLimit}
use Rattle.certificate_lines.specs.StoredModules.{module_lines}
use Rattle.certificate_lines.proofs.Growing.{last_by_place}
use Rattle.certificate_lines.proofs.Keeping.{last_limit}
use Rattle.certificate_lines.proofs.StoredLemmas.{copied_lines, last_stored, limit_found}
use Rattle.certificate_lines.proofs.builder.Builder.last_module.Goals as goal

pub returns-clause-module : goal.returns-clause-module
returns-clause-module c =
    let d = c.self.inside.tables.circuit in
    let ms = c.self.inside.modules.items in
    subst (λ (s : BuilderView). option_map
    (λ (m : Bor StoredModule). module_lines s.setting.circuit m.now) c.last.result
    ≡ last_module s.entries) c.self.view_is
    (copied_lines d c.last.result
    ∙ ap (option_map (module_lines d))
    (c.last.ensures.value ∙ ap (λ l. slice_get l (length l - 1)) c.deref.ensures.value
    ∙ last_by_place ms)
    ∙ last_stored d ms)

pub returns-clause-within_limit : goal.returns-clause-within_limit
returns-clause-within_limit c =
    let d = c.self.inside.tables.circuit in
    let ms = c.self.inside.modules.items in
    subst (λ (s : BuilderView). IfSome c.last.result (λ (m : Bor StoredModule).
    IsWithinLineLimit (module_lines s.setting.circuit m.now))) c.self.view_is
    (limit_found d c.last.result (last_module (builder_lines c.self.inside))
    (copied_lines d c.last.result
    ∙ ap (option_map (module_lines d))
    (c.last.ensures.value ∙ ap (λ l. slice_get l (length l - 1)) c.deref.ensures.value
    ∙ last_by_place ms)
    ∙ last_stored d ms)
    (last_limit _ _ _ _ _ _ _ c.self.invariant.tracked.kept))
