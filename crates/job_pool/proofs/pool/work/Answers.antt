use Rattle.job_pool.proofs.Imports.{All, DeskSeat, IsSeatOf, List, Worker, ap, arc_value, arith, drawn_by, drop, false}
use Rattle.job_pool.proofs.Imports.{length, length-map, map, rules, seats_of, shape_of, shapes_of, shares_of, subst}
use Rattle.job_pool.proofs.Imports.{sum_of_filed, sym, take, ℕ, ◌++◌, ◌<◌, ◌∙◌, ◌≡◌, ◌≤◌}
use Rattle.lemmas.proofs.Common.{All-same}
use Rattle.job_pool.proofs.Members.{groups_below}
use Rattle.job_pool.proofs.Filed.{all_seats, every_number_was_filed, whole}
use Rattle.job_pool.proofs.Risen.{all_have}
use Rattle.job_pool.proofs.pool.work.Goals as goal

-- room for as many as were asked for
enough : (n count all room : ℕ) → n ≡ all → count ≡ all → count ≤ room → n ≤ room
enough n count all room is asked fits = omega arith

pub take_workers_apart-seats-requires-clause-room_for_seats :
    goal.take_workers_apart-seats-requires-clause-room_for_seats
take_workers_apart-seats-requires-clause-room_for_seats g c = let hired = c.make_workers-workers.ensures.count in
    let room = c.in-Ok.ensures.room_for_all in
    (enough _ _ _ _ hired c.len.ensures room.1, enough _ _ _ _ hired c.len.ensures room.2)

pub close-requires : goal.close-requires
close-requires g c = let desk = c.in-Ok.desk in let before = c.as_mut_slice.result.now in let now =
    c.run_all.new.workers in
    let len : length now ≡ length before = search rules in
    let same : take c.make_workers-workers.result.len (now ++ drop (length now) c.make_workers-workers.result.items)
    ≡ now =
    whole _ now c.make_workers-workers.result.items (len ∙ ap length c.as_mut_slice.ensures.value) (search rules) in
    subst {A = List DeskSeat} (All (IsSeatOf desk)) (sym (c.take_workers_apart-seats.ensures.seats ∙ ap seats_of same))
    (all_seats desk c.args.groups.now before now len c.run_all.ensures)

pub returns-clause-filed : goal.returns-clause-filed
returns-clause-filed g c = λ fed. let desk = c.in-Ok.desk in let before = c.as_mut_slice.result.now in let now =
    c.run_all.new.workers in
    let len : length now ≡ length before = search rules in
    let same : take c.make_workers-workers.result.len (now ++ drop (length now) c.make_workers-workers.result.items)
    ≡ now =
    whole _ now c.make_workers-workers.result.items (len ∙ ap length c.as_mut_slice.ensures.value) (search rules) in
    let P : Worker g.row.F.Denot g.row.A.Denot → Type 0 = λ w. w.starved ≡ false in
    let quiet : All P now = All-same P _ _ (sym same) (c.take_workers_apart-seats.ensures.starved fed) in
    let some_worker : 0 < length before = search rules in
    let jobs = map arc_value c.args.jobs.now in
    let long = length-map jobs shape_of in
    let many = length-map c.args.jobs.now arc_value in
    let all : length (shapes_of jobs) ≡ desk.numbers = omega (arith, long, many, c.in-Ok.ensures.desk.0) in
    let below : All (λ k. k < desk.numbers) c.args.groups.now =
    subst (λ n. All (λ k. k < n) c.args.groups.now) all
    (groups_below (shapes_of jobs) c.args.groups.now c.requires.groups) in
    let closed = c.in-Ok-close.ensures in
    let sum = every_number_was_filed desk c.args.groups.now before now len c.run_all.ensures _ _ some_worker quiet
    (closed.draws ∙ ap (map drawn_by) (c.take_workers_apart-seats.ensures.seats ∙ ap seats_of same)) closed.all.drawn
    below in
    let start = ap sum_of_filed (ap shares_of c.as_mut_slice.ensures.value ∙ c.make_workers-workers.ensures.shares) in
    let back = ap sum_of_filed (c.take_workers_apart-seats.ensures.shares ∙ ap shares_of same) in
    omega (arith, back, sum, start, long, many, c.requires.groups.count)

pub returns-clause-shares : goal.returns-clause-shares
returns-clause-shares g c = let before = c.as_mut_slice.result.now in let now = c.run_all.new.workers in
    let len : length now ≡ length before = search rules in
    all_have c.in-Ok.desk c.args.groups.now c.make_workers-workers.result.len c.make_workers-workers.result.items before
    now _ _
    c.make_workers-workers.result.ok.0 c.as_mut_slice.ensures.value len c.make_workers-workers.ensures.shares
    c.take_workers_apart-seats.ensures.shares c.run_all.ensures

pub returns-in_default-close-clause-shares : goal.returns-in_default-close-clause-shares
returns-in_default-close-clause-shares g c = let before = c.as_mut_slice.result.now in let now =
    c.run_all.new.workers in
    let len : length now ≡ length before = search rules in
    all_have c.in-Ok.desk c.args.groups.now c.make_workers-workers.result.len c.make_workers-workers.result.items before
    now _ _
    c.make_workers-workers.result.ok.0 c.as_mut_slice.ensures.value len c.make_workers-workers.ensures.shares
    c.take_workers_apart-seats.ensures.shares c.run_all.ensures
