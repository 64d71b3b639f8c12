use Rattle.module_box.proofs.Imports.{arith, common_steps, false≢true, rectangle, in_box, sym, false, ◌∙◌, ◌≡◌}
use Rattle.module_box.specs.OwnersView.{owners_view}
use Rattle.module_box.specs.Tiling.{no_owner}
use Rattle.module_box.proofs.PartOwners.{named_cell, none_by_number, stays}
use Rattle.module_box.proofs.owners.Owners.owner_if_any.Goals as goal

pub returns-then-not-holds : goal.returns-then-not-holds
returns-then-not-holds c boxes part i h =
    let p = rw (← c.self.view_is) at part in
    let x = c.args.cell.x in let y = c.args.cell.y in
    let out : in_box (rectangle (owners_view c.self.inside)) x y ≡ false = grind (arith, common_steps) in
    false≢true (sym out ∙ stays (owners_view c.self.inside) p.table boxes p.each no_owner p.taken x y i h)

pub returns-then-number-eq-NO_OWNER : goal.returns-then-number-eq-NO_OWNER
returns-then-number-eq-NO_OWNER c boxes part =
    none_by_number c.args.self.now part.table boxes part.each no_owner part.taken c.args.cell.x c.args.cell.y
    (grind (arith, common_steps))

pub returns : goal.returns
returns c boxes part =
    rw c.owner-number.ensures (named_cell c.args.self.now part.table boxes part.each no_owner part.taken
    c.args.cell.x c.args.cell.y (rw (← c.self.view_is) (grind (arith, common_steps))) (grind (arith, common_steps)))
