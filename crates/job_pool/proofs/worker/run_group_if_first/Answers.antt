use Rattle.job_pool.proofs.Imports.{arc_value, arith, job_of, map, rules, shapes_of, value_at}
use Rattle.job_pool.proofs.Members.{not_first}
use Rattle.job_pool.proofs.worker.run_group_if_first.Goals as goal

pub returns-then-groups-number : goal.returns-then-groups-number
returns-then-groups-number g c =
    let z = not_first (shapes_of (map arc_value c.args.shared_work.now.jobs.now)) c.args.shared_work.now.groups.now
    c.args.number
    c.requires.groups c.if-groups-number.true in
    omega (arith, z)

pub file_members-requires-clause-first : goal.file_members-requires-clause-first
file_members-requires-clause-first g c =
    value_at arc_value c.args.shared_work.now.jobs.now c.args.number _
    (job_of c.in_ok-finding.finding) c.requires.number c.index-jobs-number.is c.in_ok-finding.ensures.job

pub file_members-requires-clause-digest : goal.file_members-requires-clause-digest
file_members-requires-clause-digest g c = search rules
