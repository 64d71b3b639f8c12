use Rattle.local_run.proofs.Imports.{arith, length, slice_get-get_or, slice_get_within, ◌<◌}
use Rattle.lemmas.proofs.Common.{below_by_test}
use Rattle.local_run.proofs.LeapLemmas.{all_later}
use Rattle.local_run.proofs.lines.are_events_later_from.Goals as goal

pub returns-then-place-events : goal.returns-then-place-events
returns-then-place-events c less =
    let within : c.args.place < length c.args.events.now = c.if-place-events.true in
    all_later c.args.events.now c.args.place c.args.time _ c.requires
    (slice_get-get_or c.args.events.now c.args.place _ within) (below_by_test _ _ less)

pub returns : goal.returns
returns c same i e from at =
    let within = slice_get_within c.args.events.now i e at in
    absurd (omega (arith, c.if-place-events.false, within, from))
