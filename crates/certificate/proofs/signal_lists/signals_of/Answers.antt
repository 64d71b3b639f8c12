use Rattle.certificate.proofs.Imports.{AreSignalLists, None, get_or, subst, take, take_all}
use Rattle.certificate.proofs.HaloLists.{taken_one}
use Rattle.certificate.proofs.StoredSignals.{item_is}
use Rattle.certificate.proofs.TimetableLemmas.{table_all_times_rises, table_events_rise, with_border}
use Rattle.certificate.proofs.signal_lists.signals_of.Goals as goal

pub loop-line-preserved : goal.loop-line-preserved
loop-line-preserved c =
    let b = get_or c.args.lines.now c.loop-line.line-index (record { time = None; column = 0; row = 0; wire = None }) in
    subst (λ bs. AreSignalLists c.args.locals.now bs c.push.new.self)
    (taken_one c.args.lines.now c.loop-line.line-index b c.loop-line-test.true
    (item_is c.args.lines.now c.loop-line.line-index _ c.loop-line-test.true))
    (with_border c.args.locals.now (take c.loop-line.line-index c.args.lines.now) b c.one_or_local_wire-signal.result
    c.loop-line.table c.push.new.self c.one_or_local_wire-signal.ensures.same_signal
    c.one_or_local_wire-signal.ensures.own_wire c.in_ok-push.ensures.all_times c.in_ok-push.ensures.events
    c.loop-line.invariant)

pub new-requires-2-clause-all_times : goal.new-requires-2-clause-all_times
new-requires-2-clause-all_times c =
    table_all_times_rises c.args.locals.now c.args.lines.now _ c.requires.order
    (subst (λ bs. AreSignalLists c.args.locals.now bs c.loop-line.table)
    (take_all c.loop-line.line-index c.args.lines.now c.loop-line-test.false) c.loop-line.invariant)

pub new-requires-2-clause-events : goal.new-requires-2-clause-events
new-requires-2-clause-events c =
    table_events_rise c.args.locals.now c.args.lines.now _ c.requires.order
    (subst (λ bs. AreSignalLists c.args.locals.now bs c.loop-line.table)
    (take_all c.loop-line.line-index c.args.lines.now c.loop-line-test.false) c.loop-line.invariant)
