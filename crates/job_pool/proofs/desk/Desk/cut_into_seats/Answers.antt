use Rattle.job_pool.proofs.Imports.{arith, ◌-◌}
use Rattle.job_pool.proofs.Moves.{splits_as}
use Rattle.job_pool.proofs.desk.Desk.cut_into_seats.Goals as goal

pub split_seat-seat-requires : goal.split_seat-seat-requires
split_seat-seat-requires c = let desk = c.args.self.now in (
  c.loop.invariant.table,
  omega arith,
  splits_as desk.table.shared.key c.loop.rest.id (desk.seats - c.loop.counter) c.loop.rest.me.0 c.loop.invariant.rest
      (omega arith),
)
