use Rattle.module_box.proofs.Imports.{ap, false≢true, is_among, is_some, sym, ◌∙◌}
use Rattle.module_box.proofs.WireLists.{place_among, place_same}
use Rattle.module_box.proofs.locals.local_number.Goals as goal

pub unreachable-requires : goal.unreachable-requires
unreachable-requires c = false≢true
    (sym (ap is_some c.in-None.is) ∙ ap is_some c.number-2.ensures ∙ place_among c.args.known.now c.number.result
    ∙ ap (is_among c.args.known.now) c.number.ensures ∙ c.requires.wire_known)

pub returns-clause-wire : goal.returns-clause-wire
returns-clause-wire c =
    place_same c.args.known.now c.number.result c.in-Some.number (sym c.in-Some.is ∙ c.number-2.ensures)
    ∙ c.number.ensures
