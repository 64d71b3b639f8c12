use Rattle.border_match.proofs.Imports.{job_signals}
use Rattle.border_match.proofs.Least.{better_for}
use Rattle.border_match.proofs.Stars.{stars_of, starred_back}
use Rattle.border_match.proofs.borders.Borders.least_with_stars_of_module.Goals as goal

pub returns : goal.returns
returns c =
    let j = c.args.job.now in
    let own = job_signals c.args.border j in
    let are = stars_of j.area.x j.area.y own c.schedule.result.now c.all_times.result.now
    c.all_times.ensures.same_list c.schedule.ensures in
    better_for _ _ _ _ _ c.least_with_faults_at_stars.ensures
    (λ h f r. starred_back c.args.self.now j.area c.area-corner.result c.all_times.result.now own.all_times h
    c.area-corner.ensures.area are r)
