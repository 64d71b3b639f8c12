use Rattle.certificate_lines.proofs.Imports.{BuilderView, Some, ap, arith, common_steps, known, modules_of, option_map}
use Rattle.certificate_lines.proofs.Imports.{slice_get, slice_get-map, subst, sym, ◌∙◌, ◌≡◌}
use Rattle.certificate_lines.proofs.Lists.{some_is}
use Rattle.certificate_lines.proofs.StoredLemmas.{area_at}
use Rattle.certificate_lines.proofs.builder.Builder.is_outside_and_nonlocal.Goals as goal

pub returns-then-holds : goal.returns-then-holds
returns-then-holds c m at =
    let area = subst (λ (s : BuilderView). slice_get (modules_of s.entries) c.args.number ≡ Some m →
    c.index.result.now.area ≡ m.area) c.self.view_is
    (λ a. area_at c.self.inside.tables.circuit c.self.inside.modules.items c.args.number m c.index.result.now a
    c.index.ensures) at in
    grind (arith, common_steps)

pub returns : goal.returns
returns c m at =
    let area = subst (λ (s : BuilderView). slice_get (modules_of s.entries) c.args.number ≡ Some m →
    c.index.result.now.area ≡ m.area) c.self.view_is
    (λ a. area_at c.self.inside.tables.circuit c.self.inside.modules.items c.args.number m c.index.result.now a
    c.index.ensures) at in
    let g = c.args.self.now.setting.circuit in
    let wires : c.local_wires_of_module.result.now ≡ known g m =
    some_is _ _ (sym c.local_wires_of_module.ensures
    ∙ slice_get-map (known g) (modules_of c.args.self.now.entries) c.args.number
    ∙ ap (option_map (known g)) at) in
    grind (arith, common_steps)
