use Rattle.certificate_lines.proofs.Imports.{ap, code_if, last_module, modules_of, not, sym, ◌∙◌}
use Rattle.section_text.specs.declared.code.RefusalCode.TheVariants.{MisplacedBox}
use Rattle.certificate_lines.proofs.BuiltLemmas.{early_fault}
use Rattle.certificate_lines.proofs.ModuleBoxes.{module_code_by}
use Rattle.certificate_lines.specs.BuilderView.{builder_lines}
use Rattle.certificate_lines.proofs.builder.Builder.module_code.Goals as goal

pub returns-in-Some : goal.returns-in-Some
returns-in-Some c =
    sym (early_fault c.args.self.now.setting (modules_of c.args.self.now.entries)
    (last_module c.args.self.now.entries) c.args.area c.in-Some.code
    (sym c.module_code_but_for_overlap.ensures ∙ c.in-Some.is))

pub returns-then-not-is_box_free : goal.returns-then-not-is_box_free
returns-then-not-is_box_free c =
    let es = builder_lines c.self.inside in
    rw (← c.self.view_is) (sym (module_code_by c.self.inside.tables (modules_of es) c.self.inside.owners
    c.self.invariant.tracked.kept.built.owners (last_module es) c.args.area
    (rw (← c.self.view_is) at (sym c.module_code_but_for_overlap.ensures ∙ c.in_default.is)) c.is_box_free.result
    c.is_box_free.ensures
    ∙ ap (λ b. code_if (not b) MisplacedBox) c.if-not-is_box_free.true))

pub returns : goal.returns
returns c =
    let es = builder_lines c.self.inside in
    rw (← c.self.view_is) (sym (module_code_by c.self.inside.tables (modules_of es) c.self.inside.owners
    c.self.invariant.tracked.kept.built.owners (last_module es) c.args.area
    (rw (← c.self.view_is) at (sym c.module_code_but_for_overlap.ensures ∙ c.in_default.is)) c.is_box_free.result
    c.is_box_free.ensures
    ∙ ap (λ b. code_if (not b) MisplacedBox) c.if-not-is_box_free.false))
