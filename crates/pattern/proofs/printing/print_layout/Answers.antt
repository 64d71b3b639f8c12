use Rattle.pattern.proofs.Imports.{Box2, Cell, LayoutHeader, List, Port, ap, cell_words, codes, flat_map, line_text}
use Rattle.pattern.proofs.Imports.{port_words, box_words, size_words, ℕ, ◌++◌, ◌∙◌}
use Rattle.pattern.proofs.Printed.{printed}
use Rattle.pattern.proofs.printing.print_layout.Goals as goal

pub returns : goal.returns
returns c = printed c.args.layout.now c.print_size.new.out.items c.print_mirrors.new.out.items
    c.print_cells.new.out.items c.print_ports.new.out.items c.print_ports-2.new.out.items c.print_cells-2.new.out.items
    c.extend_from_slice.new.self.items
    (c.in_ok-print_size.ensures ∙ ap
    (λ (l : List ℕ). l ++ line_text (codes "layout") (size_words c.size.result)) c.new-out.ensures.items
    ∙ ap (λ (s : LayoutHeader). line_text (codes "layout") (size_words s)) c.size.ensures.size)
    (c.in_ok-print_mirrors.ensures
    ∙ ap (λ (l : List Box2).
    c.print_size.new.out.items ++ flat_map (λ (r : Box2). line_text (codes "mirror") (box_words r)) l)
    c.mirrors.ensures)
    (c.in_ok-print_cells.ensures ∙ ap
    (λ (l : List Cell). c.print_mirrors.new.out.items
    ++ flat_map (λ (k : Cell). line_text (codes "ball") (cell_words k)) l) c.balls.ensures)
    (c.in_ok-print_ports.ensures ∙ ap
    (λ (l : List Port). c.print_cells.new.out.items ++ flat_map (λ (q : Port). line_text (codes "in") (port_words q)) l)
    c.ins.ensures.same_ports)
    (c.in_ok-print_ports-2.ensures
    ∙ ap (λ (l : List Port). c.print_ports.new.out.items
    ++ flat_map (λ (q : Port). line_text (codes "out") (port_words q)) l) c.outs.ensures.same_ports)
    (c.in_ok-print_cells-2.ensures
    ∙ ap (λ (l : List Cell). c.print_ports-2.new.out.items
    ++ flat_map (λ (k : Cell). line_text (codes "waste") (cell_words k)) l) c.wastes.ensures)
    c.in_ok-extend_from_slice.ensures.items
