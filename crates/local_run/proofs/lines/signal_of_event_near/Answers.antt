use Rattle.local_run.proofs.Imports.{arith, length, slice_get-get_or, sym, ◌<◌}
use Rattle.module_box.proofs.Rising.{then_moment}
use Rattle.local_run.proofs.LeapLemmas.{event_there}
use Rattle.local_run.proofs.lines.signal_of_event_near.Goals as goal

pub returns-then-eq : goal.returns-then-eq
returns-then-eq c =
    let k = c.loop-k.k in
    let within : k < length c.args.events.now = omega (arith, c.loop-k-test.true, c.min-k-end.ensures) in
    event_there c.args.events.now k c.args.moment _ c.requires (slice_get-get_or c.args.events.now k _ within)
    (then_moment _ c.args.moment (sym c.if-eq.ensures))
