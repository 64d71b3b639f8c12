use Rattle.certificate_lines.proofs.Imports.{ap, arith, common_steps, get_or, rules, sym, ◌+◌, ◌-◌, ◌∙◌, ◌≡◌}
use Rattle.certificate_lines.proofs.TableLemmas.{part_zero, row_empty}
use Rattle.certificate_lines.proofs.ports.PortTable.are_rows_without_port.Goals as goal

pub returns : goal.returns
returns c = λ all k l x.
    let a = c.self.inside in
    let y = c.args.y in
    let first = c.in-Some.first in
    let long : first + c.args.height - first ≡ c.args.height = omega arith in
    let zeros = rw (long, c.deref.ensures.value) at (sym c.are_all_zero.ensures ∙ all) in
    let none : get_or a.rows.items (first + k) 0 ≡ 0 = part_zero a.rows.items first c.args.height k zeros l in
    let at : first + a.area.y ≡ y = search rules in
    let place : y + k - a.area.y ≡ first + k = omega (arith, at) in
    let empty = row_empty a c.self.invariant x (y + k) (ap (λ i. get_or a.rows.items i 0) place ∙ none) in
    grind (arith, common_steps)
