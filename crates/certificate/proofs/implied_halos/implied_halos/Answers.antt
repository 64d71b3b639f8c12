use Rattle.certificate.proofs.Imports.{HasCircuitWire, IsPermutation, arith, border_line, border_line_cmp, common_steps}
use Rattle.certificate.proofs.Imports.{edge_lines_at, edge_lines_beside, is_lt, line_total, map, module_lines, ranks_by}
use Rattle.certificate.proofs.Imports.{rules, subst}
use Rattle.std.proofs.lemmas.List.Sorted.{IsPermutation-map}
use Rattle.lemmas.proofs.Common.{All-permutation, answers_always}
use Rattle.certificate.proofs.FullModules.{distinct_beside}
use Rattle.certificate.proofs.HaloTables.{own_edges_at}
use Rattle.certificate.proofs.SortedLines.{sorted_lines, sorted_by_lines}
use Rattle.certificate.proofs.implied_halos.implied_halos.Goals as goal

pub returns-clause-halos : goal.returns-clause-halos
returns-clause-halos c g area good are =
    let ms = map (module_lines g.circuit) c.args.modules.now in
    let lines = edge_lines_beside g ms area in
    let same : IsPermutation (edge_lines_at c.args.modules.now c.args.places.now) c.sort_by.new.self.items =
    grind (arith, common_steps) in
    sorted_lines lines (map (border_line g.circuit) c.sort_by.new.self.items) (distinct_beside g ms good area)
    (subst (λ ls. IsPermutation ls (map (border_line g.circuit) c.sort_by.new.self.items)) are
    (IsPermutation-map (border_line g.circuit) _ _ same))
    (sorted_by_lines g.circuit c.sort_by.new.self.items
    (c.in_ok-sort_by.ensures.sorted
    (λ a b. is_lt (border_line_cmp (border_line g.circuit a) (border_line g.circuit b)))
    (ranks_by line_total (border_line g.circuit))
    (answers_always _ _ _ (λ f a r g' k. search rules))))

pub returns-clause-wires : goal.returns-clause-wires
returns-clause-wires c g own =
    let same : IsPermutation (edge_lines_at c.args.modules.now c.args.places.now) c.sort_by.new.self.items =
    grind (arith, common_steps) in
    All-permutation (HasCircuitWire g.circuit) _ _ same
    (own_edges_at g.circuit c.args.modules.now c.args.places.now own)
