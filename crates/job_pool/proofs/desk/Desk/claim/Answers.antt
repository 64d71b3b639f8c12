use Rattle.job_pool.proofs.Imports.{View, [], ap, arith, nat_tests, past_greatest, past_last, sym, ◌++◌, ◌+◌, ◌∙◌, ◌∷◌}
use Rattle.job_pool.proofs.Imports.{◌≡◌, ◌≤◌}
use Rattle.job_pool.proofs.Sums.{none_late, pushed}
use Rattle.job_pool.proofs.Moves.{claims}
use Rattle.job_pool.proofs.desk.Desk.claim.Goals as goal
use Rattle.core_book.proofs.Counting.{past_last-push}

pub fetch_add-found-requires : goal.fetch_add-found-requires
fetch_add-found-requires c = let desk = c.args.self.now in let seat = c.args.seat.now in
    let below : past_last seat.drawn.items ≤ seat.numbers = let e = c.is_finished.ensures in let f =
    c.if-is_finished.false in
    grind (arith, nat_tests) in
    let clear : past_greatest seat.seat.me.0.draws ≤ desk.table.shared.key.numbers = let t =
    ap past_greatest seat.same in omega arith in (
      c.requires.0,
      omega arith,
      claims desk.table.shared.key desk.table.shared.table_id.slots seat.seat.id seat.seat.me
          (omega arith) seat.one_place (none_late desk.table.shared.key.numbers seat.seat.me.0.draws clear),
    )

pub invariant_of-seat : goal.invariant_of-seat
invariant_of-seat c = let seat = c.args.seat.now in
    let below : past_last seat.drawn.items ≤ seat.numbers = let e = c.is_finished.ensures in let f =
    c.if-is_finished.false in
    grind (arith, nat_tests) in
    let d = c.fetch_add-found.ensures.2 in
    let seen : c.fetch_add-found.new.seat.me.0.seen ≡ c.fetch_add-found.result + 1 = ap (λ (v : View). v.seen) d.1 in
    let p = pushed seat.drawn.items c.push_reserved.new.self.items c.fetch_add-found.result seat.numbers
    c.push_reserved.ensures.items (omega arith) seat.rising (omega arith) in
    record {
      same = ap (λ (v : View). v.draws) d.1
          ∙ (ap (λ l. l ++ c.fetch_add-found.result ∷ []) seat.same ∙ sym c.push_reserved.ensures.items);
      one_place = ap (λ (v : View). v.places) d.1 ∙ seat.one_place;
      no_slot = d.2 ∙ seat.no_slot;
      room = omega arith;
      seen_above = omega arith;
      rising = p.1;
      last_is_top = p.2;
      front_below = p.3;
    }

pub returns-else-found-self-clause-answer : goal.returns-else-found-self-clause-answer
returns-else-found-self-clause-answer c =
    let d = c.fetch_add-found.ensures.2 in
    let e = ap (λ (v : View). past_last v.draws) d.1 in
    let f = past_last-push c.args.seat.now.seat.me.0.draws c.fetch_add-found.result in
    let seen : c.fetch_add-found.new.seat.me.0.seen ≡ c.fetch_add-found.result + 1 = ap (λ (v : View). v.seen) d.1 in
    omega arith
