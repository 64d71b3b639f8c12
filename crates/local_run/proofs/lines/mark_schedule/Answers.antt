use Rattle.local_run.proofs.QuietLemmas.{quiet_in, still_all_times}
use Rattle.local_run.proofs.Steady.{steady_in}
use Rattle.local_run.proofs.lines.mark_schedule.Goals as goal

pub returns-clause-unmarked_cells_zero : goal.returns-clause-unmarked_cells_zero
returns-clause-unmarked_cells_zero c =
    let s = c.args.schedule.now in
    let b = c.args.area in
    let m = c.mark_events_at.ensures in
    let events = rw c.events.ensures.same_list at m.marked in
    quiet_in s b c.args.time c.mark_events_at.new.marks
    (still_all_times s b c.args.marks.now c.mark_events_at.new.marks m.marks_kept c.requires.all_times) events

pub returns-clause-unmarked_numbers_steady : goal.returns-clause-unmarked_numbers_steady
returns-clause-unmarked_numbers_steady c =
    let events = rw c.events.ensures.same_list at c.mark_events_at.ensures.numbers_marked in
    steady_in c.args.schedule.now c.args.area c.args.time c.mark_events_at.new.numbers events
