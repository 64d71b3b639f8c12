use Rattle.module_box.proofs.Imports.{drop, map, moved_event, take, ◌++◌, ◌≡◌}
use Rattle.module_box.proofs.moving.move_events.Given as goal

abbrev pub invariant-loop-event : goal.invariant-loop-event
invariant-loop-event l =
    l.event-items ≡ map (moved_event l.dx l.dy) (take l.event-index l.fn.events.items)
    ++ drop l.event-index l.fn.events.items
