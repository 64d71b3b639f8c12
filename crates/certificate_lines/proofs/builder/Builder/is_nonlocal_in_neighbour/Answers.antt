use Rattle.certificate_lines.proofs.Imports.{Bool, BuilderView, ModuleLines, SFits, ap, ap₂, arith}
use Rattle.certificate_lines.proofs.Imports.{common_steps, in_box, is_outside_and_nonlocal, list_any, modules_of}
use Rattle.certificate_lines.proofs.Imports.{partner, rules, size_sides, subst, sym, to_z-of_z, true, w32, whole, ℤ}
use Rattle.certificate_lines.proofs.Imports.{◌&&◌, ◌||◌, ◌∙◌, ◌≡◌}
use Rattle.certificate_lines.proofs.OddBlocks.{lacked_beside, low_cell}
use Rattle.certificate_lines.proofs.builder.Builder.is_nonlocal_in_neighbour.Goals as goal

pub odd_partner-column-requires : goal.odd_partner-column-requires
odd_partner-column-requires c =
    let size = c.self.inside.tables.size in
    let sides = size_sides size c.prove_valid.ensures in
    let low = low_cell size.w size.h c.args.cell.x c.args.cell.y sides.0.most sides.1.most
    (subst (λ (s : BuilderView). in_box (whole s.setting.size) c.args.cell.x c.args.cell.y ≡ true) (sym c.self.view_is)
    c.requires) in
    grind (arith, common_steps)

pub odd_partner-row-requires : goal.odd_partner-row-requires
odd_partner-row-requires c =
    let size = c.self.inside.tables.size in
    let sides = size_sides size c.prove_valid.ensures in
    let low = low_cell size.w size.h c.args.cell.x c.args.cell.y sides.0.most sides.1.most
    (subst (λ (s : BuilderView). in_box (whole s.setting.size) c.args.cell.x c.args.cell.y ≡ true) (sym c.self.view_is)
    c.requires) in
    grind (arith, common_steps)

pub returns : goal.returns
returns c =
    let v = c.args.self.now in let cell = c.args.cell in
    let ms = modules_of v.entries in
    let fx : SFits w32 cell.x = search rules in
    let fy : SFits w32 cell.y = search rules in
    let px : c.odd_partner-column.result ≡ partner 1 cell.x = simp to_z-of_z at c.odd_partner-column.ensures in
    let py : c.odd_partner-row.result ≡ partner 1 cell.y = simp to_z-of_z at c.odd_partner-row.ensures in
    let asks : ℤ → ℤ → Bool = λ x y.
    list_any (λ (m : ModuleLines). in_box m.area x y && is_outside_and_nonlocal v.setting.circuit cell c.args.wire m)
    ms in
    let fc : SFits w32 c.odd_partner-column.result = search rules in
    let fr : SFits w32 c.odd_partner-row.result = search rules in
    let beside : c.is_nonlocal_at_other_owner-beside.result ≡ asks c.odd_partner-column.result cell.y =
    simp to_z-of_z at c.is_nonlocal_at_other_owner-beside.ensures in
    let above : c.is_nonlocal_at_other_owner-above.result ≡ asks cell.x c.odd_partner-row.result =
    simp to_z-of_z at c.is_nonlocal_at_other_owner-above.ensures in
    let corner : c.is_nonlocal_at_other_owner-corner.result
    ≡ asks c.odd_partner-column.result c.odd_partner-row.result =
    simp to_z-of_z at c.is_nonlocal_at_other_owner-corner.ensures in
    ap₂ (λ a b. a || b)
    (ap₂ (λ a b. a || b) (beside ∙ ap (λ x. asks x cell.y) px) (above ∙ ap (asks cell.x) py))
    (corner ∙ ap₂ asks px py)
    ∙ lacked_beside v.setting.circuit ms cell c.args.wire
    (λ k m e. (c.self.invariant.tracked.kept.built.sound.each k m (rw (← c.self.view_is) at e)).good.even)
