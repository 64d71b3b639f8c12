use Rattle.certificate_lines.proofs.Imports.{arith, last_module, modules_of, sym, ◌∙◌}
use Rattle.certificate_lines.proofs.BuiltLemmas.{good_module}
use Rattle.certificate_lines.proofs.ModuleBoxes.{may_put}
use Rattle.certificate_lines.proofs.StoredLines.{kept_module}
use Rattle.certificate_lines.specs.BuilderView.{builder_lines}
use Rattle.certificate_lines.proofs.builder.Builder.add_module.Goals as goal

pub put-requires : goal.put-requires
put-requires c =
    let es = builder_lines c.self.inside in
    may_put c.self.inside.tables (modules_of es) c.self.inside.owners c.self.invariant.tracked.kept.built.owners
    (last_module es) c.args.area
    (rw (← c.self.view_is) at (good_module _ _ _ c.args.area (sym c.module_code.ensures ∙ c.in_default.is)))

pub invariant_of-self-2 : goal.invariant_of-self-2
invariant_of-self-2 c =
    let g = c.self.inside.tables in
    let good = rw (← c.self.view_is) at (sym c.module_code.ensures ∙ c.in_default.is) in
    rw (
      c.in-Ok-move_wires_to_earlier.ensures.earlier,
      c.in-Ok-move_wires_to_earlier.ensures.known_emptied,
      c.module_line_key-self-inside.ensures,
      c.truncate-2.ensures.keys,
      c.truncate-3.ensures.keys,
    )
    (kept_module g c.self.inside.modules.items c.push.new.self.items _ _ _ _ _ _ c.self.invariant c.new.result
    c.in-Ok.ensures.items c.args.area (c.new.ensures.lines g.circuit) (c.new.ensures.wires g.circuit)
    c.put.new.self good c.len-before.result (omega (arith, c.len-before.ensures, c.self.inside.modules.ok))
    c.put.ensures)
