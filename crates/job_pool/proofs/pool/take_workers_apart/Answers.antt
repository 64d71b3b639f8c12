use Rattle.job_pool.proofs.Imports.{Worker, arith, into_iter_items}
use Rattle.job_pool.proofs.Ends.{taken}
use Rattle.job_pool.proofs.pool.take_workers_apart.Goals as goal

pub loop-worker-preserved : goal.loop-worker-preserved
loop-worker-preserved g c = let i = c.loop-worker.invariant in let t = c.in-Some.ensures.steps in
    let rest = into_iter_items c.loop-worker.worker-iterator in
    let left = into_iter_items c.next.new.self in
    record {
      next = tt;
      finite = tt;
      seats = taken (λ (w : Worker g.row.F.Denot g.row.A.Denot). w.seat) c.loop-worker.seats.items
          c.push_reserved.new.self.items rest _ left _ c.push_reserved.ensures.items t.0 i.seats;
      shares = taken (λ (w : Worker g.row.F.Denot g.row.A.Denot). w.share) c.loop-worker.shares.items
          c.push_reserved-in-loop-worker.new.self.items rest _ left _ c.push_reserved-in-loop-worker.ensures.items t.0
          i.shares;
      seat_room = omega arith;
      share_room = omega arith;
    }
