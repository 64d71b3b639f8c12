use Rattle.module_box.proofs.Imports.{arith}
use Rattle.lemmas.proofs.Common.{with_items_is}
use Rattle.module_box.specs.OwnersView.{owners_view}
use Rattle.module_box.proofs.PartOwners.{puts_box}
use Rattle.module_box.proofs.owners.Owners.put.Goals as goal

pub returns : goal.returns
returns c =
    let new = c.fill_box_until_taken-stop.new.table in
    let takes = rw c.deref_mut.ensures.value at c.fill_box_until_taken-stop.ensures in
    let items = with_items_is c.self.inside.numbers new
    (omega (arith, takes.sized, c.self.inside.numbers.ok.0)) in
    rw (items, ← c.self.view_is) (puts_box (owners_view c.self.inside) c.args.area
    (rw (← c.self.view_is) at c.requires) c.args.number c.fill_box_until_taken-stop.result new takes)
