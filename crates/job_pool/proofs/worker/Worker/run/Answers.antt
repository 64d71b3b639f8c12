use Rattle.job_pool.proofs.Imports.{All, ap, arc_value, arith, drawn_by, length, length-map, map, occurrences}
use Rattle.job_pool.proofs.Imports.{past_last, rules, shape_of, shapes_of, subst, sym, ◌+◌, ◌<◌, ◌∙◌, ◌≡◌}
use Rattle.job_pool.proofs.Members.{due_more, groups_below}
use Rattle.job_pool.proofs.Filed.{empty_adds_none}
use Rattle.job_pool.proofs.Risen.{risen_on}
use Rattle.job_pool.proofs.worker.Worker.run.Goals as goal
use Rattle.core_book.proofs.Counting.{past_last-push}

pub loop-number-smaller : goal.loop-number-smaller
loop-number-smaller g c = let before = c.loop-number.self.seat in let after = c.claim.new.seat in let a =
    c.in-Number.ensures.answer in
    let s = past_last-push before.seat.me.0.draws c.in-Number.number in
    let e = ap past_last (sym after.same ∙ a.2) in
    omega arith

pub loop-number-preserved : goal.loop-number-preserved
loop-number-preserved g c = let i = c.loop-number.invariant in let a = c.in-Number.ensures.answer in
    let groups = c.args.shared_work.now.groups.now in
    let drawn = due_more groups c.in-Number.number (drawn_by c.loop-number.self.seat) (drawn_by c.claim.new.seat) a.2 in
    let more : c.run_group_if_first.new.share.filed
    ≡ c.loop-number.self.share.filed + occurrences c.in-Number.number groups =
    search rules in
    record {
      seat = c.claim.ensures.seat;
      starved = i.starved;
      risen = risen_on _ _ _ i.risen c.run_group_if_first.ensures.risen;
      filed = let w = i.filed in omega arith;
    }

pub returns : goal.returns
returns g c = let i = c.loop-number.invariant in let a = c.in_default.ensures in let t = a.claim in
    let groups = c.args.shared_work.now.groups.now in
    let numbers = c.args.shared_work.now.desk.now.numbers in
    let jobs = map arc_value c.args.shared_work.now.jobs.now in
    let long = length-map jobs shape_of in
    let many = length-map c.args.shared_work.now.jobs.now arc_value in
    let all : length (shapes_of jobs) ≡ numbers = omega (arith, long, many, c.requires.all) in
    let below : All (λ k. k < numbers) groups =
    subst (λ n. All (λ k. k < n) groups) all (groups_below (shapes_of jobs) groups c.requires.groups) in
    let same = empty_adds_none groups numbers t.next (drawn_by c.loop-number.self.seat)
    (drawn_by c.claim.new.seat) below t.answers t.draws in
    let w = i.filed in
    record {
      seat = a.seat;
      risen = i.risen;
      filed = λ _. omega arith;
      ended = λ _. a.answer.0;
    }

pub returns-in-Err : goal.returns-in-Err
returns-in-Err g c = let i = c.loop-number.invariant in
    record {
      seat = c.claim.ensures.seat;
      risen = risen_on _ _ _ i.risen c.run_group_if_first.ensures.risen;
      filed = λ fed. absurd cc;
      ended = λ fed. absurd cc;
    }
