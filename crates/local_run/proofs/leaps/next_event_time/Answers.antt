use Rattle.local_run.proofs.Imports.{arith, common_steps, slice_get-get_or}
use Rattle.local_run.proofs.LeapLemmas.{none_until, none_before, none_at_all}
use Rattle.local_run.proofs.leaps.next_event_time.Goals as goal

pub returns-then-next-end-clause-no_event_passed : goal.returns-then-next-end-clause-no_event_passed
returns-then-next-end-clause-no_event_passed c = grind (arith, common_steps, none_before, slice_get-get_or)

pub returns-else-next-end-clause-no_event_passed : goal.returns-else-next-end-clause-no_event_passed
returns-else-next-end-clause-no_event_passed c =
    none_until c.args.events.now _ _ _ _ _ c.requires.rising_moments c.first_event_place-first.ensures.first
    (omega arith)
    (slice_get-get_or c.args.events.now c.first_event_place-first.result _ c.if-first-events.true) c.if-next-end.false

pub returns-else-first-events-clause-no_event_passed : goal.returns-else-first-events-clause-no_event_passed
returns-else-first-events-clause-no_event_passed c =
    none_at_all c.args.events.now _ _ _ _ c.first_event_place-first.ensures.first c.if-first-events.false
