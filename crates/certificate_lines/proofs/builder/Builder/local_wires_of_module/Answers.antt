use Rattle.certificate_lines.proofs.Imports.{BuilderView, Some, ap, arith, common_steps, known, length, length-map, map}
use Rattle.certificate_lines.proofs.Imports.{modules_of, option_map, refl, slice_get, slice_get-map, subst, sym, ◌+◌}
use Rattle.certificate_lines.proofs.Imports.{◌∙◌, ◌≡◌}
use Rattle.lemmas.proofs.Common.{slice_get_read}
use Rattle.certificate_lines.proofs.LackedWires.{earlier_wires, last_wires}
use Rattle.certificate_lines.specs.BuilderView.{builder_lines}
use Rattle.certificate_lines.proofs.builder.Builder.local_wires_of_module.Goals as goal

pub returns-then-number-last : goal.returns-then-number-last
returns-then-number-last c =
    let g = c.self.inside.tables in let items = c.self.inside.earlier.items in let n = c.args.number + 1 in
    let keys = map (λ s. s.items) items in
    let same : length keys ≡ length items = length-map items (λ s. s.items) in
    let long = c.if-number-last.true in let counted = c.len-last.ensures in
    let found = slice_get_read items (length items) n c.index.result.now refl
    (omega (arith, long, counted)) c.index.ensures in
    subst (λ (s : BuilderView). slice_get (map (known s.setting.circuit) (modules_of s.entries)) c.args.number
    ≡ Some c.as_slice.result.now) c.self.view_is
    (earlier_wires g.circuit (modules_of (builder_lines c.self.inside)) keys c.self.inside.known.wires
    c.self.invariant.tracked.wires c.args.number (omega (arith, long, counted, same))
    ∙ slice_get-map (λ s. s.items) items n ∙ ap (option_map (λ s. s.items)) found
    ∙ ap (λ l. Some l) (sym c.as_slice.ensures.value))

pub returns-else-number-last : goal.returns-else-number-last
returns-else-number-last c = grind (arith, common_steps, length-map, last_wires)
