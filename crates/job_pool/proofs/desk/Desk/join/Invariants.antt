use Rattle.job_pool.proofs.Imports.{All, IsSeatOf, drawn_by, into_iter_items, into_iter_len, joined, map, vec_capacity}
use Rattle.job_pool.proofs.Imports.{vec_len, ◌++◌, ◌+◌, ◌<◌, ◌≡◌, ◌≤◌}
use Rattle.job_pool.proofs.desk.Desk.join.Given as goal

-- the joined list is the lists so far, end to end, and each seat so far gave its place
abbrev pub invariant-loop-other : goal.invariant-loop-other
invariant-loop-other l = let rest = l.other-iterator in record {
  next : (goal.iterator-loop-other).can_next rest;
  finite : (goal.iterator-loop-other).is_finite rest;
  table : l.seat.table_id ≡ l.self.table.shared.table_id;
  places : l.seat.me.0.places ≡ vec_len l.draws;
  some : 0 < vec_len l.draws;
  joined : l.seat.me.0.draws ≡ joined (map (λ v. v.items) l.draws.items);
  mine : All (IsSeatOf l.self) (into_iter_items rest);
  all : map (λ v. v.items) l.draws.items ++ map drawn_by (into_iter_items rest) ≡ map drawn_by l.fn.seats.items;
  count : vec_len l.draws + into_iter_len rest ≡ vec_len l.fn.seats;
  room : vec_len l.fn.seats ≤ vec_capacity l.draws;
}
