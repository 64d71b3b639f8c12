use Rattle.local_run.proofs.Imports.{arith}
use Rattle.local_run.proofs.StopScans.{past_all, past_these, stop_first}
use Rattle.local_run.proofs.scan.first_stop_fault.Goals as goal

pub returns-in-Some : goal.returns-in-Some
returns-in-Some c =
    stop_first c.args.job.now c.args.values.now c.args.time c.stops.place c.in-Some.assignment _
    c.requires.job_ready.job.stops_rise c.stops.invariant
    c.stop-stop.ensures c.if-stop-time.false c.in-Some.ensures

pub returns-after-stops : goal.returns-after-stops
returns-after-stops c =
    let past = past_all c.args.job.now c.args.values.now c.args.time c.stops.place c.stops.invariant
    (let many = c.stops-in-stops.ensures in let all = c.stops-test.false in omega (arith, many, all)) in
    (past.free, past.next)

pub returns-then-stop-time : goal.returns-then-stop-time
returns-then-stop-time c =
    let past = past_these c.args.job.now c.args.values.now c.args.time c.stops.place _
    c.requires.job_ready.job.stops_rise
    c.stops.invariant
    c.stop-stop.ensures c.if-stop-time.true in
    (past.free, past.next)
