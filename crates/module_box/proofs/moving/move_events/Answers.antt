use Rattle.module_box.proofs.Imports.{arith, get_or_default, length, map_over_more, ◌<◌}
use Rattle.module_box.proofs.moving.move_events.Goals as goal

pub loop-event-preserved : goal.loop-event-preserved
loop-event-preserved c =
    let within : c.loop-event.event-index < length c.loop-event.event-items =
    omega (arith, c.loop-event-test.true, c.loop-event.auto.event-items) in
    rw c.moved_cell-event.ensures (map_over_more _ _ _ _ _
    (omega (arith, c.loop-event-test.true, c.deref_mut-event-items.ensures.value))
    c.loop-event.invariant (get_or_default _ _ _ _ within))
