use Rattle.certificate_lines.proofs.Imports.{arith, common_steps}
use Rattle.certificate_lines.specs.StoredModules.{lines_of_modules}
use Rattle.certificate_lines.proofs.Keeping.{good_line, last_good}
use Rattle.certificate_lines.proofs.StoredLines.{follows_last, kept_body, kept_left, may_store, named_line, some_module}
use Rattle.certificate_lines.proofs.builder.Builder.add_body_line.Goals as goal

pub push_line_in_last_module-requires-clause-some_module : goal.push_line_in_last_module-requires-clause-some_module
push_line_in_last_module-requires-clause-some_module c =
    let g = c.self.inside.tables in
    let good = good_line g _ c.args.entry (grind (arith, common_steps)) in
    some_module g.circuit c.self.inside.modules.items good.module_lines good.last

pub push_line_in_last_module-requires-clause-line : goal.push_line_in_last_module-requires-clause-line
push_line_in_last_module-requires-clause-line c =
    let g = c.self.inside.tables in
    let good = good_line g _ c.args.entry (grind (arith, common_steps)) in
    may_store g good.module_lines c.args.entry c.wire_in-wire.result
    (last_good g _ _ _ _ _ _ c.self.invariant.tracked.kept good.module_lines good.last)
    c.wire_in-wire.ensures.size_limits c.wire_in-wire.ensures.at_most_max_gates (c.requires) good.words
    (named_line g good.module_lines c.args.entry c.wire_in-wire.result good.words c.wire_in-wire.ensures.wire)

pub invariant_of-self-in_err-push_line_in_last_module : goal.invariant_of-self-in_err-push_line_in_last_module
invariant_of-self-in_err-push_line_in_last_module c =
    let g = c.self.inside.tables in
    let good = good_line g (lines_of_modules g.circuit c.self.inside.modules.items) c.args.entry
    (grind (arith, common_steps)) in
    let own = named_line g good.module_lines c.args.entry c.wire_in-wire.result good.words
    c.wire_in-wire.ensures.wire in
    rw (
      c.make_room_if_starred_border_line.ensures.edges,
      c.make_room_if_starred_border_line.ensures.halos,
      c.make_room_for_wires.ensures.wires,
    )
    (kept_left g c.self.inside.modules.items c.push_line_in_last_module.new.modules.items _ _ _ _ _ _ c.self.invariant
    (c.push_line_in_last_module.ensures.wires g.circuit own c.self.invariant.wires)
    (c.in_err-push_line_in_last_module.ensures.lines_on_error g.circuit))

pub invariant_of-self-2 : goal.invariant_of-self-2
invariant_of-self-2 c =
    let g = c.self.inside.tables in
    let ms = c.self.inside.modules.items in
    let good = good_line g (lines_of_modules g.circuit ms) c.args.entry (grind (arith, common_steps)) in
    let own = named_line g good.module_lines c.args.entry c.wire_in-wire.result good.words
    c.wire_in-wire.ensures.wire in
    rw (
      c.key_of-self-inside.ensures,
      c.push_line_wires.ensures,
      c.make_room_for_wires.ensures.wires,
    )
    (kept_body g ms c.push_line_in_last_module.new.modules.items _ _ _ _ _ _ c.self.invariant
    (c.push_line_in_last_module.ensures.wires g.circuit own c.self.invariant.wires) c.args.entry good
    (c.in_ok-push_line_in_last_module.ensures.lines g.circuit own
    (follows_last g.circuit ms good.module_lines c.args.entry good.last
    good.follows)) c.note_if_starred_border_line.new.edges.keys c.note_if_starred_border_line.new.halos.keys
    (grind (arith, common_steps))
    (grind (arith, common_steps)) c.requires)

pub returns-clause-ok : goal.returns-clause-ok
returns-clause-ok c =
    let g = c.self.inside.tables in
    let ms = c.self.inside.modules.items in
    let good = good_line g (lines_of_modules g.circuit ms) c.args.entry (grind (arith, common_steps)) in
    let own = named_line g good.module_lines c.args.entry c.wire_in-wire.result good.words
    c.wire_in-wire.ensures.wire in
    let more = c.in_ok-push_line_in_last_module.ensures.lines g.circuit own
    (follows_last g.circuit ms good.module_lines c.args.entry good.last good.follows) in
    grind (arith, common_steps)
