use Rattle.module_box.proofs.Imports.{AreDistinct, List, ap, position, subst, sym, ℕ, ◌==◌, ◌∙◌}
use Rattle.module_box.proofs.WireLists.{place_of_different}
use Rattle.module_box.proofs.numbered_wires.NumberedWires.number.Goals as goal

pub returns-then-is_this_wire_at : goal.returns-then-is_this_wire_at
returns-then-is_this_wire_at c =
    place_of_different c.deref.result.now c.args.wire _
    (subst AreDistinct (sym c.deref.ensures.value) c.self.invariant.different)
    (c.is_this_wire_at.ensures c.if-is_this_wire_at.true)
    ∙ ap (λ (ws : List ℕ). position (λ v. v == c.args.wire) ws) (c.deref.ensures.value ∙ c.self.view_is)
