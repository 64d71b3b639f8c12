use Rattle.certificate.proofs.Imports.{Box2, List, ap, arith, circuit_of, length, length-map, map, module_lines}
use Rattle.certificate.proofs.Imports.{setting_of, size_sides, slice_get, subst, sym, ◌<◌, ◌∙◌, ◌≡◌, ◌≤◌}
use Rattle.certificate.proofs.HaloTables.{all_placed, even_areas, few_edges, inner_edges, none_placed, stored_areas}
use Rattle.certificate.proofs.neighbour_edges.neighbour_edge_places.Goals as goal
use Rattle.lemmas.specs.Bounds.{max_modules}

pub returns-then-size-le1 : goal.returns-then-size-le1
returns-then-size-le1 c =
    let p = c.args.tables.now in let g = setting_of p.circuit p.layout in
    let steps : c.size-size.result.steps ≡ g.size.steps =
    ap (λ s. s.steps) (c.size-size.ensures.size ∙ ap (λ q. q.size) c.layout.ensures) in
    none_placed g c.args.modules.now (map (λ l. l.items) c.in_ok-lists.lists.items)
    (subst (λ n. n ≤ 1) steps c.if-size-le1.true)
    (length-map c.in_ok-lists.lists.items (λ l. l.items) ∙ c.in_ok-lists.ensures.count) c.in_ok-lists.ensures.empty

pub push_edge_places-requires-clause-table : goal.push_edge_places-requires-clause-table
push_edge_places-requires-clause-table c =
    let p = c.args.tables.now in let g = setting_of p.circuit p.layout in
    let sides = size_sides c.size-size.result c.size-size.ensures.limits in
    let size = c.size-size.ensures.size ∙ ap (λ q. q.size) c.layout.ensures in
    let boxes_are = c.deref.ensures.value ∙ c.in_ok-boxes.ensures
    ∙ sym (stored_areas g.circuit c.args.modules.now) in
    record {
      small = rw (c.requires.owners.width, c.requires.owners.height, ← size) (sides.0.most, sides.1.most);
      owners = rw boxes_are c.requires.owners.owners;
      even = λ k b at. even_areas g c.args.modules.now c.requires.good.modules k b
          (ap (λ (bs : List Box2). slice_get bs k) (sym boxes_are) ∙ at);
      count = length-map c.in_ok-lists.lists.items (λ l. l.items) ∙ c.in_ok-lists.ensures.count
          ∙ sym (ap length (c.deref.ensures.value ∙ c.in_ok-boxes.ensures)
          ∙ length-map c.args.modules.now (λ m. m.area));
    }

pub push_edge_places-requires-clause-inner : goal.push_edge_places-requires-clause-inner
push_edge_places-requires-clause-inner c =
    let p = c.args.tables.now in let g = setting_of p.circuit p.layout in
    rw (c.requires.owners.width, c.requires.owners.height)
    (inner_edges g c.args.modules.now c.requires.good.modules)

pub push_edge_places-requires-clause-few_modules : goal.push_edge_places-requires-clause-few_modules
push_edge_places-requires-clause-few_modules c =
    subst (λ n. n ≤ max_modules) (length-map c.args.modules.now (module_lines (circuit_of c.args.tables.now.circuit)))
    c.requires.good.modules.few

pub push_edge_places-requires-clause-few_lines : goal.push_edge_places-requires-clause-few_lines
push_edge_places-requires-clause-few_lines c =
    let p = c.args.tables.now in
    few_edges (setting_of p.circuit p.layout) c.args.modules.now c.requires.good.few_lines

pub returns : goal.returns
returns c =
    let p = c.args.tables.now in let g = setting_of p.circuit p.layout in
    let steps : c.size-size.result.steps ≡ g.size.steps =
    ap (λ s. s.steps) (c.size-size.ensures.size ∙ ap (λ q. q.size) c.layout.ensures) in
    let more = c.if-size-le1.false in
    all_placed g c.args.modules.now c.deref.result.now (map (λ l. l.items) c.in_ok-lists.lists.items)
    (map (λ l. l.items) c.push_edge_places.new.lists.items) (subst (λ n. 1 < n) steps (omega (arith, more)))
    (c.deref.ensures.value ∙ c.in_ok-boxes.ensures)
    (length-map c.in_ok-lists.lists.items (λ l. l.items) ∙ c.in_ok-lists.ensures.count)
    c.in_ok-lists.ensures.empty c.in_ok-push_edge_places.ensures
