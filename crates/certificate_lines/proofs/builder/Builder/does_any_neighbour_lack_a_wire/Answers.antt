use Rattle.certificate_lines.proofs.Imports.{All, Bool, BuilderView, List, ap, arith, common_steps}
use Rattle.certificate_lines.proofs.Imports.{does_neighbour_lack_wire, edges, flat_map, get_or, lacks_wire_of_some_edge}
use Rattle.certificate_lines.proofs.Imports.{length, list_any, list_any_at, modules_of, subst, sym, take, take_all}
use Rattle.certificate_lines.proofs.Imports.{true, ◌<◌, ◌∙◌, ◌≡◌}
use Rattle.certificate_lines.specs.StoredModules.{HasCircuitWire, HasCircuitWires, IsCellWithinLayout, border_line}
use Rattle.certificate_lines.specs.declared.stored_module.StoredModule.{StoredModule}
use Rattle.certificate_lines.proofs.StoredEdges.{lacked_stored, lines_on_layout}
use Rattle.certificate_lines.proofs.builder.Builder.does_any_neighbour_lack_a_wire.Goals as goal

pub do_neighbours_lack_a_wire-requires-clause-own : goal.do_neighbours_lack_a_wire-requires-clause-own
do_neighbours_lack_a_wire-requires-clause-own c =
    let d = c.self.inside.tables.circuit in
    let n = c.module-item.result in
    let all = subst (All (HasCircuitWires d)) (sym c.deref-module-items.ensures.value) c.self.invariant.wires in
    let here = subst (HasCircuitWires d) (sym c.module-item.is)
    (all c.loop-module.module-index n c.loop-module-test.true) in
    subst (λ (s : BuilderView). All (HasCircuitWire s.setting.circuit) c.as_slice.result.now) c.self.view_is
    (subst (All (HasCircuitWire d)) (sym c.as_slice.ensures.value) here.edges)

pub do_neighbours_lack_a_wire-requires-clause-inside : goal.do_neighbours_lack_a_wire-requires-clause-inside
do_neighbours_lack_a_wire-requires-clause-inside c =
    let g = c.self.inside.tables in
    let n = c.module-item.result in
    let i = c.loop-module.module-index in
    let are = c.deref-module-items.ensures.value in
    let all = lines_on_layout g c.self.inside.modules.items c.self.invariant.tracked.kept.built.sound i n
    (subst (λ (l : List StoredModule). i < length l) are c.loop-module-test.true)
    (c.module-item.is ∙ ap (λ (l : List StoredModule). get_or l i n) are) in
    subst (λ (s : BuilderView). All (IsCellWithinLayout s.setting.size) c.as_slice.result.now) c.self.view_is
    (subst (All (IsCellWithinLayout g.size)) (sym c.as_slice.ensures.value) all)

-- whether a module has an edge line whose wire a neighbour lacks
has_lacked : BuilderView → StoredModule → Bool
has_lacked s n = list_any (λ b. does_neighbour_lack_wire s.setting.circuit (modules_of s.entries)
    (border_line s.setting.circuit b)) n.edges.items

pub returns-then-do_neighbours_lack_a_wire : goal.returns-then-do_neighbours_lack_a_wire
unfolding has_lacked
returns-then-do_neighbours_lack_a_wire c =
    let v = c.args.self.now in
    let n = c.module-item.result in
    let here : has_lacked v n ≡ true = grind (arith, common_steps) in
    let hit = list_any_at (has_lacked v) c.deref-module-items.result.now c.loop-module.module-index n
    c.loop-module-test.true
    (ap (has_lacked v) (sym c.module-item.is) ∙ here) in
    sym hit ∙ ap (list_any (has_lacked v)) c.deref-module-items.ensures.value
    ∙ subst (λ (s : BuilderView). list_any (has_lacked s) c.self.inside.modules.items
    ≡ list_any (lacks_wire_of_some_edge s.setting.circuit (flat_map edges (modules_of s.entries)))
    (modules_of s.entries))
    c.self.view_is (lacked_stored c.self.inside.tables.circuit c.self.inside.modules.items)

pub returns : goal.returns
unfolding has_lacked
returns c =
    let v = c.args.self.now in
    let l = c.deref-module-items.result.now in
    let all : take c.loop-module.module-index l ≡ l = grind (arith, common_steps, take_all) in
    sym c.loop-module.invariant ∙ ap (list_any (has_lacked v)) (all ∙ c.deref-module-items.ensures.value)
    ∙ subst (λ (s : BuilderView). list_any (has_lacked s) c.self.inside.modules.items
    ≡ list_any (lacks_wire_of_some_edge s.setting.circuit (flat_map edges (modules_of s.entries)))
    (modules_of s.entries))
    c.self.view_is (lacked_stored c.self.inside.tables.circuit c.self.inside.modules.items)
