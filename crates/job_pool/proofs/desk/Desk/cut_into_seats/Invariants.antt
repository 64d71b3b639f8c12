use Rattle.job_pool.proofs.Imports.{All, IsNewSeatOf, [], vec_capacity, vec_len, seat_view, ◌-◌, ◌≡◌, ◌≤◌}
use Rattle.job_pool.proofs.desk.Desk.cut_into_seats.Given as goal

-- the seats opened so far have one place and an empty list, and the rest of the places is the splitting seat's
abbrev pub invariant-loop : goal.invariant-loop
invariant-loop l = record {
  table : l.rest.table_id ≡ l.self.table.shared.table_id;
  rest : l.rest.me.0 ≡ seat_view [] 0 (l.self.seats - l.counter);
  len : vec_len l.opened ≡ l.counter;
  room : l.self.seats ≤ vec_capacity l.opened;
  each : All (IsNewSeatOf l.self) l.opened.items;
}
