use Rattle.job_pool.proofs.Imports.{All, DeskSeat, IsNewSeatOf, IsReadyWorker, List, Worker, [], arith, into_iter_items}
use Rattle.job_pool.proofs.Imports.{refl, subst, ◌++◌, ◌∷◌}
use Rattle.job_pool.proofs.Ends.{all_front, all_last, all_push, passed}
use Rattle.job_pool.proofs.pool.make_workers.Goals as goal

pub loop-share-preserved : goal.loop-share-preserved
loop-share-preserved g c = let desk = c.args.desk.now in let i = c.loop-share.invariant in let t =
    c.in-Some.ensures.steps in let seat = c.in-Some-pop.seat in let p = c.push_reserved.ensures in
    let was : All (IsNewSeatOf desk) (c.pop.new.self.items ++ seat ∷ []) =
    subst {A = List DeskSeat} (All (IsNewSeatOf desk)) c.in-Some-pop.ensures.items i.seats in
    let new = all_last (IsNewSeatOf desk) c.pop.new.self.items seat was in
    record {
      next = tt;
      finite = tt;
      seats = all_front (IsNewSeatOf desk) c.pop.new.self.items (seat ∷ []) was;
      left = let l = c.in-Some-pop.ensures.len in omega arith;
      count = omega arith;
      room = omega arith;
      all = passed (λ (w : Worker g.row.F.Denot g.row.A.Denot). w.share) c.loop-share.workers.items
          c.push_reserved.new.self.items _ (into_iter_items c.loop-share.share-iterator)
          (into_iter_items c.next.new.self) c.args.shares.items p.items t.0 i.all;
      ready = all_push (IsReadyWorker desk) c.loop-share.workers.items c.push_reserved.new.self.items _ p.items i.ready
          (new, refl);
    }
