use Rattle.job_pool.proofs.Imports.{into_iter_items, into_iter_len, seats_of, shares_of, vec_capacity, vec_len, ◌++◌}
use Rattle.job_pool.proofs.Imports.{◌+◌, ◌≡◌, ◌≤◌}
use Rattle.job_pool.proofs.pool.take_workers_apart.Given as goal

abbrev pub invariant-loop-worker : goal.invariant-loop-worker
invariant-loop-worker g l = let rest = l.worker-iterator in record {
  next : (goal.iterator-loop-worker g).can_next rest;
  finite : (goal.iterator-loop-worker g).is_finite rest;
  seats : l.seats.items ++ seats_of (into_iter_items rest) ≡ seats_of l.fn.workers.items;
  shares : l.shares.items ++ shares_of (into_iter_items rest) ≡ shares_of l.fn.workers.items;
  seat_room : vec_len l.seats + into_iter_len rest ≤ vec_capacity l.seats;
  share_room : vec_len l.shares + into_iter_len rest ≤ vec_capacity l.shares;
}
