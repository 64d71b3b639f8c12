use Rattle.module_box.proofs.Imports.{arith, get_or_default, length, map_over_more, ◌<◌}
use Rattle.module_box.proofs.moving.move_all_times.Goals as goal

pub loop-signal-preserved : goal.loop-signal-preserved
loop-signal-preserved c =
    let within : c.loop-signal.signal-index < length c.loop-signal.signal-items =
    omega (arith, c.loop-signal-test.true, c.loop-signal.auto.signal-items) in
    rw c.moved_cell-signal.ensures (map_over_more _ _ _ _ _
    (omega (arith, c.loop-signal-test.true, c.deref_mut-signal-items.ensures.value))
    c.loop-signal.invariant (get_or_default _ _ _ _ within))
