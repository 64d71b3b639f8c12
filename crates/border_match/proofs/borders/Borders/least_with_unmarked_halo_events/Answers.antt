use Rattle.border_match.proofs.Imports.{arith, common_steps, slice_get-get_or}
use Rattle.border_match.proofs.Least.{better_then, better_for}
use Rattle.border_match.proofs.Marks.{event_step, unmarked_all, unmarked_step}
use Rattle.border_match.proofs.borders.Borders.least_with_unmarked_halo_events.Goals as goal

pub loop-place-preserved-then-seen-place : goal.loop-place-preserved-then-seen-place
loop-place-preserved-then-seen-place c = grind (arith, common_steps, better_for, unmarked_step, slice_get-get_or)

pub loop-place-preserved : goal.loop-place-preserved
loop-place-preserved c = better_then _ _ _ _ _ _ _ c.loop-place.invariant c.least_with_halo_event-least.ensures
    (λ h f r. event_step c.args.seen.now c.args.self.now.job.now.halos.events c.loop-place.place c.halo_event.result h
    c.halo_event.ensures r)

pub returns : goal.returns
returns c = better_for _ _ _ _ _ c.loop-place.invariant
    (λ h f r. unmarked_all c.args.seen.now c.args.self.now.job.now.halos.events c.loop-place.place h
    (omega (arith, c.loop-place-test.false, c.halo_event_count-place-end.ensures)) r)
