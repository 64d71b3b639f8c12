use Rattle.certificate_lines.proofs.Imports.{SomethingMissing, ap, code_if, sym, ◌∙◌}
use Rattle.certificate_lines.proofs.ModuleBoxes.{end_by}
use Rattle.certificate_lines.specs.BuilderView.{builder_lines}
use Rattle.certificate_lines.proofs.builder.Builder.missing.Goals as goal

pub returns-then-lacks-full : goal.returns-then-lacks-full
returns-then-lacks-full c =
    rw (← c.self.view_is) (sym (end_by c.self.inside.tables (builder_lines c.self.inside) c.self.inside.owners
    c.self.invariant.tracked.kept.built.owners _ _ (rw (← c.self.view_is) at c.has_nonlocal_port-lacks.ensures)
    c.are_all_blocks_taken-full.ensures ∙ ap (λ b. code_if b SomethingMissing) c.if-lacks-full.true))

pub returns-else-lacks-full : goal.returns-else-lacks-full
returns-else-lacks-full c =
    rw (← c.self.view_is) (sym (end_by c.self.inside.tables (builder_lines c.self.inside) c.self.inside.owners
    c.self.invariant.tracked.kept.built.owners _ _ (rw (← c.self.view_is) at c.has_nonlocal_port-lacks.ensures)
    c.are_all_blocks_taken-full.ensures ∙ ap (λ b. code_if b SomethingMissing) c.if-lacks-full.false))
