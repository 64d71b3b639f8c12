use Rattle.job_pool.proofs.Imports.{IsSeatOf, [], ap, append-nil, arith, drawn_by, into_iter_items, into_iter_len}
use Rattle.job_pool.proofs.Imports.{joined, length, map, map-append, refl, sym, vec_len, ◌++◌, ◌∙◌, ◌∷◌, ◌≡◌}
use Rattle.job_pool.proofs.Sums.{joined-snoc}
use Rattle.job_pool.proofs.Moves.{joins}
use Rattle.job_pool.proofs.Ends.{all_head, all_tail, moved}
use Rattle.job_pool.proofs.desk.Desk.join.Goals as goal

pub join_seat-requires : goal.join_seat-requires
join_seat-requires c = let desk = c.args.self.now in let i = c.loop-other.invariant in let o = c.in-Some-other.other in
    let t = c.in-Some-other.ensures.steps in let mine = all_head (IsSeatOf desk) _ o _ t.0 i.mine in (
      i.table,
      mine.0,
      o.no_slot,
      omega arith,
      joins desk.table.shared.key c.loop-other.seat.id c.loop-other.seat.me.0 o.seat.id o.seat.me.0 (omega arith)
          (omega arith),
    )

pub loop-other-init : goal.loop-other-init
loop-other-init c = let desk = c.args.self.now in let first = c.in-Some.first in
    let given = c.into_iter-other-iterator.ensures.into_iter_gives in
    let rest = into_iter_items c.into_iter-other-iterator.result in
    let same : rest ≡ into_iter_items c.next.new.self = ap (λ i. into_iter_items i) given in
    let is : c.args.seats.items ≡ first ∷ rest =
    sym c.into_iter-rest.ensures.rest ∙ (c.in-Some.ensures.items ∙ ap (λ l. first ∷ l) (sym same)) in
    let pushed : c.push_reserved.new.self.items ≡ [] ++ first.drawn ∷ [] =
    c.push_reserved.ensures.items ∙ ap (λ l. l ++ first.drawn ∷ []) c.requires.empty in
    let none : vec_len c.args.draws ≡ 0 = omega (arith, ap length c.requires.empty) in
    let left : into_iter_len c.into_iter-other-iterator.result ≡ into_iter_len c.next.new.self =
    ap (λ i. into_iter_len i) given in
    record {
      next = tt;
      finite = tt;
      table = (all_head (IsSeatOf desk) _ first rest is c.requires.seats).0;
      places = omega arith;
      some = omega arith;
      joined = first.same ∙ (sym (append-nil first.drawn.items)
          ∙ ap (λ ds. joined (map (λ v. v.items) ds)) (sym pushed));
      mine = all_tail (IsSeatOf desk) _ first rest is c.requires.seats;
      all = moved (λ v. v.items) drawn_by [] c.push_reserved.new.self.items first.drawn c.args.seats.items first rest
          (map drawn_by c.args.seats.items) pushed is first.same refl;
      count = let n = c.in-Some.ensures.len in omega arith;
      room = omega arith;
    }

pub loop-other-preserved : goal.loop-other-preserved
loop-other-preserved c = let desk = c.args.self.now in let i = c.loop-other.invariant in let o =
    c.in-Some-other.other in let t = c.in-Some-other.ensures.steps in let j = c.join_seat.ensures in let p =
    c.push_reserved-in-loop-other.ensures in
    record {
      next = tt;
      finite = tt;
      table = j.0 ∙ i.table;
      places = let k = ap (λ m. m.0.places) j.2 in omega arith;
      some = omega arith;
      joined = ap (λ m. m.0.draws) j.2
          ∙ (ap (λ l. l ++ o.seat.me.0.draws) i.joined
          ∙ (ap (λ l. joined (map (λ v. v.items) c.loop-other.draws.items) ++ l) o.same
          ∙ (sym (joined-snoc (map (λ v. v.items) c.loop-other.draws.items) o.drawn.items)
          ∙ (ap joined (sym (map-append (λ v. v.items) c.loop-other.draws.items (o.drawn ∷ [])))
          ∙ ap (λ ds. joined (map (λ v. v.items) ds)) (sym p.items)))));
      mine = all_tail (IsSeatOf desk) _ o _ t.0 i.mine;
      all = moved (λ v. v.items) drawn_by c.loop-other.draws.items c.push_reserved-in-loop-other.new.self.items o.drawn
          (into_iter_items c.loop-other.other-iterator) o (into_iter_items c.next-in-loop-other.new.self)
          (map drawn_by c.args.seats.items) p.items t.0 o.same i.all;
      count = omega arith;
      room = omega arith;
    }
