use Rattle.job_pool.proofs.Imports.{All, IsNewSeatOf, IsReadyWorker, into_iter_items, into_iter_len, shares_of}
use Rattle.job_pool.proofs.Imports.{vec_capacity, vec_len, ◌++◌, ◌+◌, ◌≡◌, ◌≤◌}
use Rattle.job_pool.proofs.pool.make_workers.Given as goal

abbrev pub invariant-loop-share : goal.invariant-loop-share
invariant-loop-share g l = let rest = l.share-iterator in record {
  next : (goal.iterator-loop-share g).can_next rest;
  finite : (goal.iterator-loop-share g).is_finite rest;
  seats : All (IsNewSeatOf l.desk) l.seats.items;
  left : vec_len l.seats ≡ into_iter_len rest;
  count : vec_len l.workers + into_iter_len rest ≡ vec_len l.fn.shares;
  room : vec_len l.fn.shares ≤ vec_capacity l.workers;
  all : shares_of l.workers.items ++ into_iter_items rest ≡ l.fn.shares.items;
  ready : All (IsReadyWorker l.desk) l.workers.items;
}
