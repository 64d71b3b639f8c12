use Rattle.module_box.proofs.Imports.{IsTrue, SFits, arith, common_steps, in_box, rectangle, rules, unsigned_abs, w32}
use Rattle.module_box.proofs.Imports.{◌≡◌}
use Rattle.lemmas.proofs.Common.{to_z-of_z}
use Rattle.module_box.specs.OwnersView.{owners_view}
use Rattle.module_box.proofs.BoxCells.{owner_in_table, owner_read}
use Rattle.module_box.proofs.owners.Owners.owner.Goals as goal

pub index-requires : goal.index-requires
index-requires c = grind (arith, common_steps, owner_in_table)

pub returns : goal.returns
returns c =
    let fx : SFits w32 c.args.cell.x = search rules in
    let fy : SFits w32 c.args.cell.y = search rules in
    let ex : c.unsigned_abs-2.result ≡ unsigned_abs c.args.cell.x = simp to_z-of_z at c.unsigned_abs-2.ensures.value in
    let ey : c.unsigned_abs.result ≡ unsigned_abs c.args.cell.y = simp to_z-of_z at c.unsigned_abs.ensures.value in
    let inside : IsTrue (in_box (rectangle (owners_view c.self.inside)) c.args.cell.x c.args.cell.y) =
    rw (← c.self.view_is) at c.requires in
    rw (← c.self.view_is) (owner_read
    (owners_view c.self.inside) c.args.cell.x c.args.cell.y _ _ c.index.result.now c.self.invariant inside ey ex
    c.index.ensures)
