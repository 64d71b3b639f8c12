use Rattle.local_run.proofs.Imports.{arith, length, slice_get-get_or, ◌-◌, ◌<◌}
use Rattle.local_run.proofs.LeapLemmas.{sure}
use Rattle.local_run.proofs.leaps.valid_start_place.Goals as goal

pub returns-then-events-place-2-clause-start_is_valid : goal.returns-then-events-place-2-clause-start_is_valid
returns-then-events-place-2-clause-start_is_valid c =
    let within : c.args.place - 1 < length c.args.events.now = omega arith in
    sure c.args.events.now c.args.time c.args.place _ c.requires.rising_moments (omega arith)
    (slice_get-get_or c.args.events.now (c.args.place - 1) _ within) c.if-events-place-2.true
