use Rattle.local_run.proofs.Stepping.{odd_shows, halo_cells}
use Rattle.local_run.proofs.steps.make_odd_step.Goals as goal

pub returns-clause-next : goal.returns-clause-next
returns-clause-next c =
    let j = c.args.job.now in
    let p = c.args.marked_planes.now.planes in
    let shows = c.requires.shows in
    odd_shows j c.args.values.now c.args.time p _ c.requires.job_ready c.requires.time_odd shows.size
    (halo_cells j c.args.values.now c.args.time p c.requires.job_ready shows c.requires.halo)
    c.odd_step.ensures.size c.odd_step.ensures.turned
