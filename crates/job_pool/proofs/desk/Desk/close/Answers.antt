use Rattle.job_pool.proofs.Imports.{All, All-map, DeskSeat, List, all_but_last, ap, arith, drawn_by, get_or, joined}
use Rattle.job_pool.proofs.Imports.{length, length-map, map, past_greatest, subst, sym, ℕ, ◌∙◌, ◌≡◌, ◌≤◌}
use Rattle.job_pool.proofs.Ends.{any_ended, shares}
use Rattle.job_pool.proofs.desk.Desk.close.Goals as goal

pub returns-clause-all : goal.returns-clause-all
returns-clause-all c = let desk = c.args.self in let j = c.join-seat.ensures in let e = c.final_count-counter.ensures in
    let lists : List (List ℕ) = map (λ v. v.items) c.join-seat.result.1.items in
    let each : All (λ (s : DeskSeat). past_greatest (all_but_last (drawn_by s)) ≤ desk.numbers) c.args.seats.items =
    λ k d below.
    let s : DeskSeat = get_or c.args.seats.items k d in let mine = c.requires k d below in
    let same = ap (λ l. past_greatest (all_but_last l)) s.same in omega (arith, s.front_below, mine.1) in
    shares desk.numbers desk.seats c.final_count-counter.result lists c.join-seat.result.0.me.0 e
    (j.joined ∙ ap joined (sym j.draws))
    (ap length j.draws ∙ (let m : length (map drawn_by c.args.seats.items) ≡ length c.args.seats.items =
    length-map c.args.seats.items drawn_by in omega arith))
    (subst (All (λ xs. past_greatest (all_but_last xs) ≤ desk.numbers)) (sym j.draws)
    (All-map (λ xs. past_greatest (all_but_last xs) ≤ desk.numbers) drawn_by c.args.seats.items each))

pub returns-clause-ended : goal.returns-clause-ended
returns-clause-ended c = let desk = c.args.self in let j = c.join-seat.ensures in
    any_ended drawn_by c.args.seats.items c.final_count-counter.result desk.numbers _ j.draws
    (returns-clause-all c).drawn
