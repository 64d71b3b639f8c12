use Rattle.certificate_lines.proofs.Imports.{arith, common_steps, get_or, get_or_default, length, nat_tests, rules, sym}
use Rattle.certificate_lines.proofs.Imports.{◌-◌, ◌<◌, ◌≡◌}
use Rattle.lemmas.proofs.Common.{ltb-true}
use Rattle.certificate_lines.proofs.TableLemmas.{row_empty}
use Rattle.certificate_lines.proofs.ports.PortTable.is_row_without_port.Goals as goal

pub returns-in-Some-get : goal.returns-in-Some-get
returns-in-Some-get c h x =
    let a = c.self.inside in
    let within : c.in-Some.row < length c.deref.result.now = ltb-true _ _ (sym c.in-Some-get.ensures.lookup.0) in
    let read : c.in-Some-get.number.now ≡ get_or a.rows.items c.in-Some.row 0 =
    grind (arith, common_steps, get_or_default) in
    let none : c.in-Some-get.number.now ≡ 0 = grind (arith, nat_tests) in
    let at : c.in-Some.row ≡ c.args.y - a.area.y = search rules in
    grind (arith, common_steps, row_empty)
