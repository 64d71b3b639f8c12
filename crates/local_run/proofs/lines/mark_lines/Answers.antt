use Rattle.local_run.proofs.Imports.{shape_of, ◌∙◌, ◌≡◌}
use Rattle.local_run.proofs.Steady.{event_marks_of, line_marks_of}
use Rattle.local_run.proofs.lines.mark_lines.Goals as goal

pub returns-clause-lines : goal.returns-clause-lines
returns-clause-lines c =
    let shape : c.deref-shape.result.now ≡ shape_of c.args.job.now = c.deref-shape.ensures ∙ c.shape.ensures in
    let first = c.mark_schedule-places in
    let second = c.mark_schedule-places-2 in
    let edges = rw (c.edges.ensures, c.box_at_origin_of-area.ensures, shape) at first.ensures.unmarked_cells_zero in
    let halos = rw (c.halos.ensures, c.box_at_origin_of-area.ensures, shape) at second.ensures.unmarked_cells_zero in
    line_marks_of c.args.job.now c.args.time c.args.marks.now first.new.marks second.new.marks c.requires.all_times
    (second.auto.marks ∙ first.auto.marks) second.ensures.marks_kept edges halos

pub returns-clause-events : goal.returns-clause-events
returns-clause-events c =
    let shape : c.deref-shape.result.now ≡ shape_of c.args.job.now = c.deref-shape.ensures ∙ c.shape.ensures in
    let first = c.mark_schedule-places in
    let second = c.mark_schedule-places-2 in
    let edges = rw (c.edges.ensures, c.box_at_origin_of-area.ensures, shape) at first.ensures.unmarked_numbers_steady in
    let halos = rw (c.halos.ensures, c.box_at_origin_of-area.ensures, shape) at
    second.ensures.unmarked_numbers_steady in
    event_marks_of c.args.job.now c.args.time first.new.numbers second.new.numbers second.ensures.numbers_kept edges
    halos
