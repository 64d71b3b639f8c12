use Rattle.local_run.proofs.LeapLemmas.{steady}
use Rattle.local_run.proofs.leaps.end_of_same_signals.Goals as goal

pub returns-clause-signals_unchanged : goal.returns-clause-signals_unchanged
returns-clause-signals_unchanged c =
    let none = rw c.events.ensures.same_list at c.next_event_time.ensures.no_event_passed in steady c.args.schedule.now
    _ _ none
