use Rattle.certificate.proofs.Imports.{AddsEdgePlacesInHalo, All, IsInnerCell, List, StoredBorder, StoredModule}
use Rattle.certificate.proofs.Imports.{flat_map, length, line_cell, map, rectangle, subst, sym, take, ◌≤◌}
use Rattle.certificate_lines.proofs.FlatParts.{flat_more}
use Rattle.certificate.proofs.HaloLists.{edges_then, still_ready}
use Rattle.certificate.proofs.JobsSoFar.{element_at}
use Rattle.certificate.proofs.StoredSignals.{all_at}
use Rattle.certificate.proofs.neighbour_edges.push_edge_places.Goals as goal

pub push_edge_places_of_module-requires-clause-inner : goal.push_edge_places_of_module-requires-clause-inner
push_edge_places_of_module-requires-clause-inner c =
    subst (All (λ (e : StoredBorder). IsInnerCell (rectangle c.args.owners.now) (line_cell e)))
    (sym c.deref.ensures.value)
    (all_at (λ (m : StoredModule). All (λ (e : StoredBorder). IsInnerCell (rectangle c.args.owners.now) (line_cell e))
    m.edges.items) c.args.modules.now c.requires.inner c.loop-number.number c.index-modules-number.result
    c.loop-number-test.true c.index-modules-number.is)

pub push_edge_places_of_module-requires-clause-few : goal.push_edge_places_of_module-requires-clause-few
push_edge_places_of_module-requires-clause-few c =
    subst (λ (es : List StoredBorder). length es ≤ 65536) (sym c.deref.ensures.value)
    (all_at (λ (m : StoredModule). length m.edges.items ≤ 65536) c.args.modules.now c.requires.few_lines
    c.loop-number.number c.index-modules-number.result c.loop-number-test.true c.index-modules-number.is)

pub loop-number-preserved : goal.loop-number-preserved
loop-number-preserved c =
    let m = c.index-modules-number.result in
    let boxes = c.args.boxes.now in
    let all = λ (n : StoredModule). n.edges.items in
    let old = map (λ l. l.items) c.args.lists.now.items in
    let now = map (λ l. l.items) c.loop-number.lists.items in
    let new = map (λ l. l.items) c.push_edge_places_of_module.new.lists.items in
    let here = element_at c.args.modules.now c.loop-number.number m c.loop-number-test.true c.index-modules-number.is in
    let added = c.in_ok-push_edge_places_of_module.ensures.places c.args.modules.now m here
    (sym c.deref.ensures.value) in
    record {
      table = still_ready boxes c.args.owners.now now new c.loop-number.invariant.table added.count;
      lists = subst (λ es. AddsEdgePlacesInHalo c.args.modules.now boxes es old new)
          (sym (flat_more all c.args.modules.now c.loop-number.number m c.loop-number-test.true
          c.index-modules-number.is))
          (edges_then c.args.modules.now boxes (flat_map all (take c.loop-number.number c.args.modules.now))
          (all m) old now
          new c.loop-number.invariant.lists
          (subst (λ es. AddsEdgePlacesInHalo c.args.modules.now boxes es now new) c.deref.ensures.value added));
    }
