use Rattle.module_box.proofs.Imports.{drop, map, moved_all_times, take, ◌++◌, ◌≡◌}
use Rattle.module_box.proofs.moving.move_all_times.Given as goal

abbrev pub invariant-loop-signal : goal.invariant-loop-signal
invariant-loop-signal l =
    l.signal-items
    ≡ map (moved_all_times l.dx l.dy) (take l.signal-index l.fn.all_times.items)
    ++ drop l.signal-index l.fn.all_times.items
