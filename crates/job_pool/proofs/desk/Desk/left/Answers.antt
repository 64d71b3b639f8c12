use Rattle.job_pool.proofs.Imports.{arith}
use Rattle.job_pool.proofs.Moves.{looks}
use Rattle.job_pool.proofs.desk.Desk.left.Goals as goal

pub load-found-requires : goal.load-found-requires
load-found-requires c = let desk = c.args.self.now in let seat = c.args.seat.now in (
  c.requires.0,
  omega arith,
  looks desk.table.shared.key desk.table.shared.table_id.slots seat.seat.id seat.seat.me seat.one_place,
)
