use Rattle.certificate_lines.proofs.Imports.{areas, is_outside_and_nonlocal, modules_of}
use Rattle.certificate_lines.proofs.OddBlocks.{asked_none, asked_owner}
use Rattle.certificate_lines.specs.BuilderView.{builder_lines}
use Rattle.certificate_lines.proofs.builder.Builder.is_nonlocal_at_other_owner.Goals as goal

pub returns-in-Some : goal.returns-in-Some
returns-in-Some c =
    let g = c.self.inside.tables in let ms = modules_of (builder_lines c.self.inside) in
    let built = c.self.invariant.tracked.kept.built in
    rw (← c.self.view_is) (asked_owner ms built.sound.apart c.args.beside
    (is_outside_and_nonlocal g.circuit c.args.cell c.args.wire) c.in-Some.number c.is_outside_and_nonlocal.result
    (rw c.in-Some.is at (c.owner_if_any.ensures (areas ms) built.owners.boxes))
    (rw (← c.self.view_is) at c.is_outside_and_nonlocal.ensures))

pub returns-in-None : goal.returns-in-None
returns-in-None c =
    let g = c.self.inside.tables in let ms = modules_of (builder_lines c.self.inside) in
    let built = c.self.invariant.tracked.kept.built in
    rw (← c.self.view_is) (asked_none ms built.sound.apart c.args.beside
    (is_outside_and_nonlocal g.circuit c.args.cell c.args.wire)
    (rw c.in-None.is at (c.owner_if_any.ensures (areas ms) built.owners.boxes)))
