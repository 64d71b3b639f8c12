use Rattle.local_run.proofs.Stepping.{even_shows}
use Rattle.local_run.proofs.steps.make_even_step.Goals as goal

pub returns-clause-next : goal.returns-clause-next
returns-clause-next c = even_shows c.args.job.now c.args.values.now c.args.time c.args.marked_planes.now.planes _
    c.requires.job_ready c.requires.time_even c.requires.shows c.even_step.ensures.size c.even_step.ensures.turned
