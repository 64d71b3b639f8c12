use Rattle.certificate_lines.proofs.Imports.{All, All-nil, LayoutHeader, ap, size_sides, subst, sym, ◌∙◌}
use Rattle.certificate_lines.specs.StoredModules.{HasCircuitWires, lines_of_modules}
use Rattle.certificate_lines.proofs.Keeping.{with_none}
use Rattle.certificate_lines.proofs.builder.Builder.new.Goals as goal

pub new-requires-clause-width : goal.new-requires-clause-width
new-requires-clause-width c =
    let s = (size_sides c.size-size.result c.size-size.ensures.limits).0 in (s.least, s.most, s.even)

pub new-requires-clause-height : goal.new-requires-clause-height
new-requires-clause-height c =
    let s = (size_sides c.size-size.result c.size-size.ensures.limits).1 in (s.least, s.most, s.even)

pub invariant_of-result : goal.invariant_of-result
invariant_of-result c = record {
  tracked =
      rw (ap (lines_of_modules c.args.tables.circuit) c.new-2.ensures.items, c.new-3.ensures.items, c.new-4.ensures)
      (with_none c.args.tables c.in_ok-owners.owners
      (c.in_ok-owners.ensures.width ∙ ap (λ (s : LayoutHeader). s.w) c.size-size.ensures.size)
      (c.in_ok-owners.ensures.height ∙ ap (λ (s : LayoutHeader). s.h) c.size-size.ensures.size)
      c.in_ok-owners.ensures.no_box _ _ _ c.module_line_key.ensures);
  wires = subst (All (HasCircuitWires c.args.tables.circuit)) (sym c.new-2.ensures.items)
      (All-nil (HasCircuitWires c.args.tables.circuit));
}
