use Rattle.module_job.proofs.Imports.{event_numbers, flat_map, take, ◌++◌, ◌≡◌}
use Rattle.module_job.proofs.keys.push_events.Given as goal

abbrev pub invariant-loop-event : goal.invariant-loop-event
invariant-loop-event l = l.numbers.items
    ≡ l.initial.numbers.items ++ flat_map event_numbers (take l.event-index l.events)
