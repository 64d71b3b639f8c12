use Rattle.pattern.proofs.Imports.{Box2, Cell, List, Pattern, Port, ap, filter, get_or, has, in_cells, length, map}
use Rattle.pattern.proofs.Imports.{pattern_of, rectangle_cells, start_cells_by_kind, subst, sym, ℕ, ◌++◌, ◌+◌, ◌<◌, ◌∙◌}
use Rattle.pattern.proofs.Imports.{◌≡◌, ◌≤◌}
use Rattle.std.specs.List.{flat_map}
use Rattle.pattern.proofs.InsideLemmas.{size_sides, begins_inside, mirrors_fit}
use Rattle.pattern.proofs.StartLemmas.{in_start_list, start_list_made}
use Rattle.pattern.proofs.run.start_cells.Goals as goal
use Rattle.lemmas.specs.Bounds.{max_side}

pub push_mirror_cells-requires : goal.push_mirror_cells-requires
push_mirror_cells-requires c =
    let p : Pattern = pattern_of c.layout.inside in
    let sides = size_sides p.size c.layout.invariant.size in
    let all = begins_inside p c.layout.invariant.parts in
    subst (λ (rs : List Box2). (k : ℕ) (d : Box2) → k < length rs →
    ((get_or rs k d).x + (get_or rs k d).w ≤ max_side) × ((get_or rs k d).y + (get_or rs k d).h ≤ max_side))
    (sym c.as_slice.ensures.value)
    (mirrors_fit p.size p.mirrors all.mirrors sides.0.most sides.1.most)

list_of_five_words : (c : goal.In_ok-push_cells_of_ports_named_in) →
    c.push_cells_of_ports_named_in.new.out.items ≡ start_cells_by_kind c.args.layout.now (has c.args.on.now)
list_of_five_words c =
    let p : Pattern = pattern_of c.layout.inside in
    let ports = λ (qs : List Port). map (λ (q : Port). q.cell) (filter (λ (q : Port). has c.args.on.now q.name) qs) in
    let mirrors : c.push_mirror_cells.new.out.items ≡ flat_map rectangle_cells p.mirrors =
    c.in_ok-push_mirror_cells.ensures ∙ ap
    (λ (l : List Cell). l ++ flat_map rectangle_cells c.as_slice.result.now) c.new-cells.ensures.items
    ∙ ap (flat_map rectangle_cells) c.as_slice.ensures.value in
    let balls : c.extend_from_slice.new.self.items ≡ c.push_mirror_cells.new.out.items ++ p.balls =
    c.in_ok-extend_from_slice.ensures.items
    ∙ ap (λ (l : List Cell). c.push_mirror_cells.new.out.items ++ l) c.as_slice-2.ensures.value in
    let ins : c.push_cells_of_ports_named_in.new.out.items ≡ c.extend_from_slice.new.self.items ++ ports p.ins =
    c.in_ok-push_cells_of_ports_named_in.ensures
    ∙ ap (λ (l : List Port). c.extend_from_slice.new.self.items ++ ports l) c.as_slice-3.ensures.value in
    subst (λ (p : Pattern). c.push_cells_of_ports_named_in.new.out.items ≡ start_cells_by_kind p (has c.args.on.now))
    c.layout.view_is
    (start_list_made p (has c.args.on.now) _ _ _ mirrors balls ins)

pub returns-clause-order : goal.returns-clause-order
returns-clause-order c = list_of_five_words c

pub returns-clause-cells : goal.returns-clause-cells
returns-clause-cells c = λ x y. ap (λ (l : List Cell). in_cells l x y) (list_of_five_words c)
    ∙ in_start_list c.args.layout.now (has c.args.on.now) x y
