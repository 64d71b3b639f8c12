use Rattle.job_pool.proofs.Imports.{Counts, ap, arc_value, arith, job_of, length, length-map, map, refl, shape_of}
use Rattle.job_pool.proofs.Imports.{shapes_of, subst, sym, value_at, ◌+◌, ◌<◌, ◌≤◌}
use Rattle.lemmas.proofs.Common.{slice_get_within, slice_index}
use Rattle.job_pool.specs.Links.{IsNextOfGroup}
use Rattle.job_pool.proofs.Linking.{first_has_none_before, to_next}
use Rattle.job_pool.proofs.Members.{member_shape, read_any}
use Rattle.job_pool.proofs.Risen.{risen_more}
use Rattle.job_pool.proofs.worker.file_members.Goals as goal

pub loop-member-init : goal.loop-member-init
loop-member-init g c =
    let xs = c.args.shared_work.now.jobs.now in
    let jobs = map arc_value xs in
    let long = length-map jobs shape_of in
    let count = c.requires.groups.count in
    let some : c.args.number < length jobs = slice_get_within jobs c.args.number (job_of c.args.finding.now)
    c.requires.first in
    let fits : c.args.number ≤ length c.args.shared_work.now.groups.now = omega (arith, long, count, some) in
    let none = first_has_none_before (shapes_of jobs) c.args.shared_work.now.groups.now c.args.number
    c.requires.groups fits in
    record {
      filed = omega (arith, none);
      risen = record { filed = omega arith; accepted = omega arith };
      within = fits;
      own = λ _. c.requires.in_own_group;
    }

pub file_member-requires-clause-shape : goal.file_member-requires-clause-shape
file_member-requires-clause-shape g c =
    let xs = c.args.shared_work.now.jobs.now in
    let jobs = map arc_value xs in
    let k = arc_value c.index-jobs-member.result in
    let long = length-map jobs shape_of in
    let many = length-map xs arc_value in
    let count = c.requires.groups.count in
    let lt : c.loop-member.member < length (shapes_of jobs) = omega (arith, long, many, c.loop-member-test.true) in
    member_shape jobs c.args.shared_work.now.groups.now c.args.number c.loop-member.member
    (job_of c.args.finding.now) k c.requires.groups lt c.requires.first
    (value_at arc_value xs c.loop-member.member _ k c.loop-member-test.true c.index-jobs-member.is refl)
    (c.loop-member.invariant.own (omega (arith, lt, count)))

pub loop-member-smaller : goal.loop-member-smaller
loop-member-smaller g c =
    let xs = c.args.shared_work.now.jobs.now in
    let jobs = map arc_value xs in
    let groups = c.args.shared_work.now.groups.now in
    let links = c.args.shared_work.now.links.now in
    let long = length-map jobs shape_of in
    let many = length-map xs arc_value in
    let count = c.requires.groups.count in
    let lt : c.loop-member.member < length groups = omega (arith, long, many, count, c.loop-member-test.true) in
    let linked = c.requires.links.count in
    let low = (c.requires.links.each c.loop-member.member lt).low in
    let read = read_any links c.loop-member.member 0 (omega (arith, lt, linked)) in
    omega (arith, low, read, c.loop-member-test.true)

pub loop-member-preserved : goal.loop-member-preserved
loop-member-preserved g c =
    let xs = c.args.shared_work.now.jobs.now in
    let jobs = map arc_value xs in
    let groups = c.args.shared_work.now.groups.now in
    let links = c.args.shared_work.now.links.now in
    let member = c.loop-member.member in
    let long = length-map jobs shape_of in
    let many = length-map xs arc_value in
    let count = c.requires.groups.count in
    let lt : member < length groups = omega (arith, long, many, count, c.loop-member-test.true) in
    let linked = c.requires.links.count in
    let read = read_any links member 0 (omega (arith, lt, linked)) in
    let own = c.loop-member.invariant.own lt in
    let next : IsNextOfGroup groups c.args.number (member + 1) (slice_index links member) =
    subst (λ n. IsNextOfGroup groups n (member + 1) (slice_index links member)) own (c.requires.links.each member lt) in
    let moved = subst (IsNextOfGroup groups c.args.number (member + 1)) (sym read) next in
    let more = c.in_ok-file_member.ensures.counted in
    let one = ap (λ (z : Counts). z.filed) more in
    let before = c.loop-member.invariant.filed in
    let step = to_next c.args.number groups member _ lt own moved in
    record {
      filed = omega (arith, one, before, step);
      risen = risen_more _ _ _ _ c.loop-member.invariant.risen more;
      within = moved.high;
      own = moved.own;
    }
