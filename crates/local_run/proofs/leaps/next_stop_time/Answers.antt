use Rattle.local_run.proofs.Imports.{arith}
use Rattle.local_run.proofs.StopScans.{next_at_end, next_later}
use Rattle.local_run.proofs.leaps.next_stop_time.Goals as goal

pub returns-then-first-end-clause-next : goal.returns-then-first-end-clause-next
returns-then-first-end-clause-next c =
    let from = c.requires.next.from c.args.next _ (omega arith) c.stop-first.ensures in
    next_later c.args.job.now c.args.time _ c.args.next _ c.prove_valid.ensures.stops_rise c.requires.next
    c.stop-first.ensures from (omega arith)

pub returns-else-first-end-clause-next : goal.returns-else-first-end-clause-next
returns-else-first-end-clause-next c =
    next_later c.args.job.now c.args.time _ c.args.next _ c.prove_valid.ensures.stops_rise c.requires.next
    c.stop-first.ensures c.requires.range (omega (arith, c.if-first-end.false))

pub returns-else-next-stops-clause-next : goal.returns-else-next-stops-clause-next
returns-else-next-stops-clause-next c =
    next_at_end c.args.job.now c.args.time _ c.args.next c.requires.next
    (omega (arith, c.if-next-stops.false, c.stops.ensures)) c.requires.range
